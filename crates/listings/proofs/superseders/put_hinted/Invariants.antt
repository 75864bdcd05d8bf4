use Rattle.std.proofs.Common.{take}
use Rattle.listings.specs.Superseders.{AreIndicesOfAll}
use Rattle.listings.proofs.superseders.put_hinted.Given as goal

abbrev pub invariant-loop-nth : goal.invariant-loop-nth
invariant-loop-nth l = AreIndicesOfAll l.members (take l.nth l.ids) l.indices.items
