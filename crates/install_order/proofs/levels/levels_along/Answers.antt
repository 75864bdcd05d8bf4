use Rattle.std.proofs.Common.{◌≡◌, ◌∙◌, ℕ, List, [], Option, ap, length, subst, sym, arith}
use Rattle.install_order.specs.Levels.{AreLevels}
use Rattle.install_order.specs.Rings.{AreRingsAfter}
use Rattle.install_order.specs.Steps.{StandsIn}
use Rattle.install_order.proofs.ReadFacts.{written}
use Rattle.install_order.proofs.levels.levels_along.Goals as goal

pub returns-clause-levels : goal.returns-clause-levels
returns-clause-levels c = λ after all.
    let needs = c.args.needs.now in
    let rings = c.args.rings.now in
    let items = c.in_ok-levels.levels.items in
    let new = c.put_levels.new.levels in
    let begun = c.deref_mut.result.now in
    let len : length begun ≡ c.args.len = c.deref_mut.ensures.len ∙ c.in_ok-levels.ensures.len in
    let same : length begun ≡ length items = ap length c.deref_mut.ensures.value in
    let A : ℕ → Type 0 = λ n. AreRingsAfter needs n [] rings in
    let L : ℕ → Type 0 = λ n. AreLevels needs n (StandsIn rings) new in
    let P : List (Option ℕ) → Type 0 = λ l. AreLevels needs c.args.len (StandsIn rings) l in
    let got : AreLevels needs (length begun) (StandsIn rings) new = c.put_levels.ensures.levels (subst A (sym len) after) (λ p stands. let inside = all p stands in omega arith) in
    subst P (sym (written new items c.in_ok-levels.levels.len (got.len ∙ same) (sym c.deref_mut.ensures.len ∙ same))) (subst L len got)
