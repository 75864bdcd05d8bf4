use Rattle.std.proofs.Common.{ℕ, List, ◌∙◌, ap, get_or, take}
use Rattle.install_order.specs.Levels.{IsJustAbove, raise}
use Rattle.install_order.proofs.LevelFacts.{just_more}
use Rattle.install_order.proofs.ReadFacts.{read_more}
use Rattle.install_order.proofs.levels.level_above.Goals as goal

pub loop-node-preserved : goal.loop-node-preserved
loop-node-preserved c =
    let row = c.args.row.now in
    let i = c.loop-node.node-index in
    let level = c.raised-level.result in
    let P : List ℕ → Type 0 = λ l. IsJustAbove c.args.levels.now l level in (
      read_more P row i 0 c.loop-node-test.true
          (just_more c.args.levels.now (take i row) (get_or row i 0) c.loop-node.level c.loop-node.invariant.0 level
          (c.raised-level.ensures.level ∙ ap (raise c.loop-node.level) c.level_at.ensures)),
      c.raised-level.ensures.most c.loop-node.invariant.1,
    )
