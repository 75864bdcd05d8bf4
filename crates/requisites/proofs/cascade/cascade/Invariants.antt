use Rattle.std.proofs.Common.{◌+◌, ◌*◌, ◌^◌, length}
use Rattle.requisites.specs.Good.{marked_count}
use Rattle.requisites.proofs.CascadeFacts.{AreLooked}
use Rattle.requisites.proofs.cascade.cascade.Given as goal

abbrev pub invariant-first : goal.invariant-first
invariant-first l = AreLooked l.nodes l.fn.marks l.marks l.opening.open.items

abbrev pub invariant-rest : goal.invariant-rest
invariant-rest l = AreLooked l.nodes l.fn.marks l.marks l.opening.open.items

abbrev pub decreases-rest : goal.decreases-rest
decreases-rest l = marked_count l.opening.open.items * 2 ^ 64 + length l.opening.work.items
