use Rattle.std.proofs.Common.{List, ℕ, subst, sym}
use Rattle.std.specs.BTreeMap.{keys, values}
use Rattle.std.specs.List.{Contains}
use Rattle.catalogue.proofs.SourceFacts.{told_both, told_so}
use Rattle.chains.proofs.ClimbFacts.{are_above}
use Rattle.zone_plans.proofs.climbing.climb_from.Goals as goal

pub returns-clause-climb : goal.returns-clause-climb
returns-clause-climb g c =
    let climb = c.in_ok-by_indices.field-0 in
    let found = c.in_ok-found.found in
    let below = c.in_ok-by_indices.ensures.below in
    let same = c.in_ok-by_indices.ensures.ids in
    told_so (told_both c.in_ok-found.ensures.above c.in_ok-found.ensures.ordered) (λ content told. record {
      above = below.above;
      are = are_above content climb.ids.items (keys found) (values found) below.above same told.0 c.in_ok-found.ensures.listed below.indexed;
      turned = below.turned;
      ordered = λ id inside. (let P : List (List ℕ) → Type 0 = λ l. Contains l id in told.1 id (subst P same inside));
    })

pub returns-clause-starts : goal.returns-clause-starts
returns-clause-starts g c = λ id inside.
    let P : List (List ℕ) → Type 0 = λ l. Contains l id in
    subst P (sym c.in_ok-by_indices.ensures.ids) (c.in_ok-found.ensures.starts id inside)
