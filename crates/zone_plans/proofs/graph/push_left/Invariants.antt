use Rattle.std.proofs.Common.{take}
use Rattle.zone_plans.specs.Graphs.{ArePushed}
use Rattle.zone_plans.proofs.graph.push_left.Given as goal

abbrev pub invariant-loop-giver : goal.invariant-loop-giver
invariant-loop-giver l = ArePushed l.ids l.left (take l.giver-index l.givers) l.fn.indices.items l.indices.items
