use Rattle.std.proofs.Common.{◌-◌, ◌^◌}
use Rattle.requisites.specs.Marking.{IsPicking}
use Rattle.requisites.proofs.chosen.chosen_plans.Given as goal

abbrev pub invariant-loop-at : goal.invariant-loop-at
invariant-loop-at l = IsPicking l.nodes l.starts l.chosen.marks.items l.chosen.order.items l.at

abbrev pub decreases-loop-at : goal.decreases-loop-at
decreases-loop-at l = 2 ^ 64 - l.at
