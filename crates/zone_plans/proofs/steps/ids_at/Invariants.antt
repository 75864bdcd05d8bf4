use Rattle.std.proofs.Common.{◌≡◌, map, take}
use Rattle.verdicts.specs.Indices.{id_at}
use Rattle.zone_plans.proofs.steps.ids_at.Given as goal

abbrev pub invariant-loop-index : goal.invariant-loop-index
invariant-loop-index l = l.found.items ≡ map (id_at l.ids) (take l.index-index l.indices)
