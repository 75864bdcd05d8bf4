use Rattle.std.proofs.Common.{◌≡◌, take}
use Rattle.zone_plans.specs.Plans.{chosen_in}
use Rattle.zone_plans.proofs.placing.chosen_in.Given as goal

abbrev pub invariant-loop-one : goal.invariant-loop-one
invariant-loop-one l = l.ids.keys ≡ chosen_in (take l.one-index l.holds)
