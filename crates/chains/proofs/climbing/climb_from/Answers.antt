use Rattle.std.proofs.Common.{List, ℕ, subst, sym}
use Rattle.std.specs.BTreeMap.{keys, values}
use Rattle.std.specs.List.{Contains}
use Rattle.catalogue.proofs.SourceFacts.{told_so}
use Rattle.chains.proofs.ClimbFacts.{are_above}
use Rattle.chains.proofs.climbing.climb_from.Goals as goal

pub returns-clause-above : goal.returns-clause-above
returns-clause-above g c =
    told_so c.in_ok-found.ensures.above (λ content says at_hand.
    are_above content c.in_ok-by_indices.field-0.ids.items (keys c.in_ok-found.found) (values c.in_ok-found.found) c.in_ok-by_indices.field-0.above
    c.in_ok-by_indices.ensures.ids (says at_hand) c.in_ok-found.ensures.listed c.in_ok-by_indices.ensures.indexed)

pub returns-clause-starts : goal.returns-clause-starts
returns-clause-starts g c = λ id inside.
    let P : List (List ℕ) → Type 0 = λ l. Contains l id in
    subst P (sym c.in_ok-by_indices.ensures.ids) (c.in_ok-found.ensures.starts id inside)

pub returns-clause-ordered : goal.returns-clause-ordered
returns-clause-ordered g c = told_so c.in_ok-found.ensures.ordered (λ content ordered at_hand id inside. ordered at_hand id (c.in_ok-found.ensures.starts id inside))
