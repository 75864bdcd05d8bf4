use Rattle.std.proofs.Common.{◌≡◌, length}
use Rattle.install_order.specs.Levels.{AreNodesWith, lists_in}
use Rattle.install_order.proofs.levels.put_nodes.Given as goal

abbrev pub invariant-loop-node : goal.invariant-loop-node
invariant-loop-node l = AreNodesWith l.levels l.node (lists_in l.nodes) × (length l.nodes ≡ length l.initial.nodes)
