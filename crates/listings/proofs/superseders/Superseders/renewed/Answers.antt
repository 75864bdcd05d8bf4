use Rattle.std.proofs.Common.{List, Option, ℕ, IfSome, length, subst}
use Rattle.lemmas.proofs.ResultFacts.{ok_so}
use Rattle.verdicts.specs.Indices.{RowsAre}
use Rattle.listings.specs.Superseders.{AreIndicesOfAll, superseded_at}
use Rattle.listings.proofs.SupersederFacts.{all_below, have_all}
use Rattle.listings.proofs.superseders.Superseders.renewed.Goals as goal

pub returns-in-Some : goal.returns-in-Some
returns-in-Some c =
    let sights = c.args.entries.now in
    let superseded = c.in_ok-superseded.superseded.items in
    let R : List (List ℕ) → List (List ℕ) → Type 0 = λ ids rows. RowsAre (λ p indices. AreIndicesOfAll ids (superseded_at sights p) indices) (length sights) rows in
    let O : Option (List (List ℕ)) → Type 0 = λ found. IfSome found (R c.deref-4.result.now) in
    let S : List (List ℕ) → Type 0 = λ ids. R ids c.in-Some.below in
    let are = subst S c.deref-4.ensures.value (subst O c.in-Some.is c.in_ok-below.ensures) in
    ok_so c.by_rows.result c.by_rows.ensures (λ found so. so sights (have_all sights superseded c.in-Some.below are) (all_below sights superseded c.in-Some.below are))
