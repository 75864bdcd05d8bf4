use Rattle.sql_tables.proofs.WholeFacts.{whole_after}
use Rattle.sql_tables.proofs.law.whole_after.Goals as goal

pub returns : goal.returns
returns c = whole_after
