use Rattle.sql_tables.proofs.RecordFacts.{one_record}
use Rattle.sql_tables.proofs.law.record_of_row.Goals as goal

pub returns : goal.returns
returns c = one_record
