use Rattle.sql_writes.proofs.GoneFacts.{callers_go}
use Rattle.sql_writes.proofs.delete.callers.Goals as goal

pub returns-clause-changes : goal.returns-clause-changes
returns-clause-changes g c = callers_go _ _ _ _ c.deletion.ensures c.run.ensures.ran
