use Rattle.sql_tables.proofs.ChangeFacts.{change_made}
use Rattle.sql_tables.proofs.law.change.Goals as goal

pub returns : goal.returns
returns c = change_made
