use Rattle.std.proofs.Common.{take}
use Rattle.install_order.specs.Rings.{AreTakenOut}
use Rattle.install_order.proofs.putting.take_out.Given as goal

abbrev pub invariant-loop-node : goal.invariant-loop-node
invariant-loop-node l = AreTakenOut (take l.node-index l.nodes) l.initial.left l.left
