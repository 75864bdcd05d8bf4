use Rattle.std.proofs.Common.{◌≡◌, map, take}
use Rattle.verdicts.specs.Indices.{id_at}
use Rattle.verdicts.proofs.indices.ids_at.Given as goal

abbrev pub invariant-loop-index : goal.invariant-loop-index
invariant-loop-index l = l.ids.items ≡ map (id_at l.members) (take l.index-index l.indices)
