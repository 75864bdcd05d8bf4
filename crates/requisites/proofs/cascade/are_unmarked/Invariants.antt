use Rattle.std.proofs.Common.{take}
use Rattle.requisites.specs.Good.{AreUnmarked}
use Rattle.requisites.proofs.cascade.are_unmarked.Given as goal

abbrev pub invariant-loop-node : goal.invariant-loop-node
invariant-loop-node l = AreUnmarked l.marks (take l.node-index l.indices)
