use Rattle.sql_tables.proofs.ReadFacts.{zone_rows_read}
use Rattle.sql_tables.proofs.law.zone_rows.Goals as goal

pub returns : goal.returns
returns c = zone_rows_read
