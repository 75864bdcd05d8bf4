use Rattle.std.proofs.Common.{ℕ, List, ◌≤◌, get_or, take, subst, inl, inr, arith}
use Rattle.install_order.specs.Levels.{IsJustAbove, IsLevelOf}
use Rattle.install_order.proofs.LevelFacts.{ring_more}
use Rattle.install_order.proofs.ReadFacts.{max_is, read_more}
use Rattle.install_order.proofs.levels.ring_level.Goals as goal

pub loop-node-preserved : goal.loop-node-preserved
loop-node-preserved c =
    let needs = c.args.needs.now in
    let levels = c.args.levels.now in
    let ring = c.args.ring.now in
    let i = c.loop-node.node-index in
    let level = c.loop-node.level in
    let own = c.level_above.result in
    let P : List ℕ → Type 0 = λ l. IsLevelOf needs levels l c.greater-level.result in
    let Q : List ℕ → Type 0 = λ l. IsJustAbove levels l own in
    let e = c.greater-level.ensures in
    let low : level ≤ c.args.most = c.loop-node.invariant.1 in
    let high : own ≤ c.args.most = c.level_above.ensures.most in (
      read_more P ring i 0 c.loop-node-test.true
          (ring_more needs levels (take i ring) (get_or ring i 0) level own c.loop-node.invariant.0 (subst Q c.row.ensures c.level_above.ensures.level) c.greater-level.result e),
      elim (max_is level own) [ inl kept ↦ (let k = kept.0 in omega arith) | inr more ↦ (let k = more.0 in omega arith) ],
    )
