use Rattle.std.proofs.Common.{◌≤◌}
use Rattle.install_order.proofs.LevelFacts.{IsCountBelow}
use Rattle.install_order.proofs.levels.level_count.Given as goal

abbrev pub invariant-loop-node : goal.invariant-loop-node
invariant-loop-node l = IsCountBelow l.levels l.node l.count × (l.count ≤ l.most)
