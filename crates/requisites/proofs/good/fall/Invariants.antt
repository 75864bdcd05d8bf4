use Rattle.requisites.specs.Good.{AreMarksLeft}
use Rattle.requisites.proofs.good.fall.Given as goal

abbrev pub invariant-rounds : goal.invariant-rounds
invariant-rounds l = AreMarksLeft l.nodes l.marks
