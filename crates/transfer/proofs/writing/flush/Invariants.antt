-- each turn that goes on was interrupted: it wrote nothing and used up a retry
use Rattle.transfer.proofs.RetryFacts.{OnlyRetried}
use Rattle.transfer.proofs.writing.flush.Given as goal

abbrev pub invariant-loop-error : goal.invariant-loop-error
invariant-loop-error g l = OnlyRetried (g.W.Write.contents l.initial.writer) (g.W.Write.contents l.writer) l.initial.retries l.retries

abbrev pub decreases-loop-error : goal.decreases-loop-error
decreases-loop-error g l = l.retries
