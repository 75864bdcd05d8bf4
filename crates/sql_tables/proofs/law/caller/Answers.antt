use Rattle.sql_tables.proofs.CallerFacts.{one_caller}
use Rattle.sql_tables.proofs.law.caller.Goals as goal

pub returns : goal.returns
returns c = one_caller
