use Rattle.std.proofs.Common.{take}
use Rattle.verdicts.specs.Indices.{AreIndicesOf}
use Rattle.verdicts.proofs.indices.put_indices.Given as goal

abbrev pub invariant-loop-id : goal.invariant-loop-id
invariant-loop-id l = AreIndicesOf l.members (take l.id-index l.ids) l.indices.items
