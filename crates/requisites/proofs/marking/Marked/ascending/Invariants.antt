use Rattle.requisites.proofs.MarkingFacts.{AreMarkedBelow}
use Rattle.requisites.proofs.marking.Marked.ascending.Given as goal

abbrev pub invariant-loop-node : goal.invariant-loop-node
invariant-loop-node l = AreMarkedBelow l.self.marks.items l.node l.indices.items
