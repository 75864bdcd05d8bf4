use Rattle.requisites.specs.Good.{AreMarksLeft, marked_count}
use Rattle.requisites.proofs.good.fall_on.Given as goal

abbrev pub invariant-rounds : goal.invariant-rounds
invariant-rounds l = AreMarksLeft l.nodes l.marks

abbrev pub decreases-rounds : goal.decreases-rounds
decreases-rounds l = marked_count l.marks
