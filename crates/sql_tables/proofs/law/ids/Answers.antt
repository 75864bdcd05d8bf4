use Rattle.sql_tables.proofs.RecordFacts.{all_ids_read}
use Rattle.sql_tables.proofs.law.ids.Goals as goal

pub returns : goal.returns
returns c = all_ids_read
