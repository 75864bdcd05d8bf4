use Rattle.sql_tables.proofs.OursFacts.{known}
use Rattle.sql_tables.proofs.state_law.known.Goals as goal

pub returns : goal.returns
returns c = known
