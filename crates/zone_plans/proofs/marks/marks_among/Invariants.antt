use Rattle.std.proofs.Common.{◌≡◌, map, take}
use Rattle.supersede.specs.Reach.{has}
use Rattle.zone_plans.proofs.marks.marks_among.Given as goal

abbrev pub invariant-loop-id : goal.invariant-loop-id
invariant-loop-id l = l.marks.items ≡ map (has l.others) (take l.id-index l.ids)
