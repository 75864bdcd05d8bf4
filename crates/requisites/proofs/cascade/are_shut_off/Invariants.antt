use Rattle.std.proofs.Common.{take}
use Rattle.requisites.specs.Good.{AreShutOff}
use Rattle.requisites.proofs.cascade.are_shut_off.Given as goal

abbrev pub invariant-loop-node : goal.invariant-loop-node
invariant-loop-node l = AreShutOff l.around.superseders l.opens l.ring (take l.node-index l.ring)
