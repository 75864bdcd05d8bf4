use Rattle.sql_tables.proofs.OursFacts.{found_earlier, found_ours}
use Rattle.sql_tables.proofs.state_law.found.Goals as goal

pub returns-clause-ours : goal.returns-clause-ours
returns-clause-ours c = found_ours

pub returns-clause-earlier : goal.returns-clause-earlier
returns-clause-earlier c = found_earlier
