use Rattle.std.proofs.Common.{take}
use Rattle.zone_plans.specs.Climbs.{IsMirrored}
use Rattle.zone_plans.proofs.others.put_mirrored.Given as goal

abbrev pub invariant-loop-node : goal.invariant-loop-node
invariant-loop-node l = IsMirrored l.len (take l.node-index l.row) l.own.items
