use Rattle.std.proofs.Common.{◌≤◌, take}
use Rattle.install_order.specs.Levels.{IsJustAbove}
use Rattle.install_order.proofs.levels.level_above.Given as goal

abbrev pub invariant-loop-node : goal.invariant-loop-node
invariant-loop-node l = IsJustAbove l.levels (take l.node-index l.row) l.level × (l.level ≤ l.most)
