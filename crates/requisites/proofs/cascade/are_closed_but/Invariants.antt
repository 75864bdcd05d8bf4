use Rattle.std.proofs.Common.{take}
use Rattle.requisites.specs.Good.{AreClosedBut}
use Rattle.requisites.proofs.cascade.are_closed_but.Given as goal

abbrev pub invariant-loop-node : goal.invariant-loop-node
invariant-loop-node l = AreClosedBut l.opens l.ring (take l.node-index l.indices)
