use Rattle.requisites.specs.Good.{AreSwept}
use Rattle.requisites.proofs.good.sweep.Given as goal

abbrev pub invariant-loop-node : goal.invariant-loop-node
invariant-loop-node l = AreSwept l.nodes l.givers l.node l.initial.marks l.marks l.fell
