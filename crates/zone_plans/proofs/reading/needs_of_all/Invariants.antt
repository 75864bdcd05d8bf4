use Rattle.std.proofs.Common.{◌≡◌, take}
use Rattle.zone_plans.specs.Readings.{all_needs}
use Rattle.zone_plans.proofs.reading.needs_of_all.Given as goal

abbrev pub invariant-loop-reading : goal.invariant-loop-reading
invariant-loop-reading l = l.found.keys ≡ all_needs (take l.reading-index l.readings)
