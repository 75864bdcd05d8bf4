use Rattle.std.proofs.Common.{◌≡◌, [], length}
use Rattle.requisites.proofs.SourceFacts.{AreSourcesBelow}
use Rattle.requisites.proofs.sources.spread_all.Given as goal

abbrev pub invariant-loop-start : goal.invariant-loop-start
invariant-loop-start l = AreSourcesBelow l.lists l.marks (length l.marks) l.start l.sources × (l.work.items ≡ [])
