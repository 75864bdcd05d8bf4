use Rattle.sql_tables.proofs.WholeFacts.{whole_with_callers}
use Rattle.sql_tables.proofs.law.whole_with_callers.Goals as goal

pub returns : goal.returns
returns c = whole_with_callers
