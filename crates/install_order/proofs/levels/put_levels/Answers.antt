use Rattle.std.proofs.Common.{◌<◌, ℕ, List, [], length, get_or, subst, arith}
use Rattle.install_order.specs.Levels.{AreLevelled, AreLevels, IsLevelOf}
use Rattle.install_order.specs.Steps.{StandsIn}
use Rattle.install_order.proofs.LevelFacts.{levels_begun, next_below, next_levels}
use Rattle.install_order.proofs.ReadFacts.{read_whole}
use Rattle.install_order.proofs.levels.put_levels.Goals as goal

pub loop-index-init : goal.loop-index-init
loop-index-init c = (λ after all. levels_begun c.args.needs.now c.args.levels.now c.requires, λ p level is. absurd (let off = c.requires p in cc))

pub loop-index-preserved : goal.loop-index-preserved
loop-index-preserved c =
    let needs = c.args.needs.now in
    let rings = c.args.rings.now in
    let i = c.loop-index.index in
    let level = c.ring_level-level.result in
    let old = c.loop-index.levels in
    let new = c.set_levels.new.levels in
    let P : List ℕ → Type 0 = λ l. IsLevelOf needs old l level in
    let Q : List ℕ → Type 0 = λ l. AreLevelled l level old new in
    let inside : i < length rings = omega (arith, c.loop-index-test.true, c.len-index-end.ensures) in
    let put = subst Q c.row-in-loop-index.ensures c.set_levels.ensures in (
      λ after all. next_levels needs (length c.args.levels.now) rings i level old new inside after all (c.loop-index.invariant.0 after all) (subst P c.row.ensures c.ring_level-level.ensures.level) put,
      next_below (get_or rings i []) i level old new c.loop-index.invariant.1 c.ring_level-level.ensures.most put,
    )

pub returns-clause-levels : goal.returns-clause-levels
returns-clause-levels c = λ after all.
    let P : List (List ℕ) → Type 0 = λ l. AreLevels c.args.needs.now (length c.args.levels.now) (StandsIn l) c.loop-index.levels in
    read_whole P c.args.rings.now c.loop-index.index (omega arith) (c.loop-index.invariant.0 after all)
