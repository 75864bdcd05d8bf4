use Rattle.install_order.proofs.RingFacts.{IsGreatestBelow}
use Rattle.install_order.proofs.rings.greatest_root.Given as goal

abbrev pub invariant-loop-node : goal.invariant-loop-node
invariant-loop-node l = IsGreatestBelow l.left l.sources l.node l.greatest
