use Rattle.std.proofs.Common.{List, ℕ, subst, sym}
use Rattle.std.specs.List.{Contains}
use Rattle.listings.proofs.SupersederFacts.{superseded_inside}
use Rattle.listings.proofs.superseders.all_superseded.Goals as goal

pub returns-clause-whole : goal.returns-clause-whole
returns-clause-whole c = λ p id at.
    let P : List (List ℕ) → Type 0 = λ l. Contains l id in
    c.sort_each_once.ensures.keeps id (subst P (sym c.in_ok-ids.ensures) (superseded_inside c.args.entries.now p id at))
