use Rattle.install_order.specs.Rings.{AreReached}
use Rattle.install_order.proofs.rings.left_with_source.Given as goal

abbrev pub invariant-loop-node : goal.invariant-loop-node
invariant-loop-node l = AreReached l.left l.sources l.node l.nodes.items
