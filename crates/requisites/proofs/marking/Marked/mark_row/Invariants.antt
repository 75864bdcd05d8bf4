use Rattle.std.proofs.Common.{take}
use Rattle.requisites.specs.Marking.{AreMarked}
use Rattle.requisites.proofs.marking.Marked.mark_row.Given as goal

abbrev pub invariant-loop-node : goal.invariant-loop-node
invariant-loop-node l = AreMarked (take l.node-index l.row) l.fn.self.marks.items l.self.marks.items l.fn.self.order.items l.self.order.items
