use Rattle.std.proofs.Common.{List, ℕ, subst}
use Rattle.lemmas.proofs.ResultFacts.{ok_so}
use Rattle.listings.specs.Superseders.{AreBelow}
use Rattle.listings.proofs.superseders.Superseders.of.Goals as goal

pub returns : goal.returns
returns c =
    let sights = c.args.entries.now in
    let B : List (List ℕ) → Type 0 = λ l. AreBelow sights l c.in_ok-below.below in
    ok_so c.by_rows.result c.by_rows.ensures (λ found are. are sights c.in_ok-superseded.ensures.whole (subst B c.deref.ensures.value c.in_ok-below.ensures))
