-- each turn that goes on was interrupted: it wrote nothing and used up a retry
use Rattle.transfer.proofs.RetryFacts.{OnlyRetried}
use Rattle.transfer.proofs.writing.write_some.Given as goal

abbrev pub invariant-loop-count : goal.invariant-loop-count
invariant-loop-count g l = OnlyRetried (g.W.Write.contents l.initial.writer) (g.W.Write.contents l.writer) l.initial.retries l.retries

abbrev pub decreases-loop-count : goal.decreases-loop-count
decreases-loop-count g l = l.retries
