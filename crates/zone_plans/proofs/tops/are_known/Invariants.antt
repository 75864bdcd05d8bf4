use Rattle.std.proofs.Common.{List, ℕ, take}
use Rattle.std.specs.List.{Contains}
use Rattle.zone_plans.specs.Climbs.{IsKnown}
use Rattle.zone_plans.proofs.tops.are_known.Given as goal

abbrev pub invariant-loop-id : goal.invariant-loop-id
invariant-loop-id l = (id : List ℕ) → Contains (take l.id-index l.among) id → IsKnown l.members l.others.marks.items l.others.found.items l.among id
