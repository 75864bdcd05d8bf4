use Rattle.std.specs.List.{filter_map}
use Rattle.sql_tables.specs.Rows.{hold_found}
use Rattle.sql_tables.proofs.ReadFacts.{holds_read}
use Rattle.sql_tables.proofs.law.holds.Goals as goal

pub returns : goal.returns
returns c stored found asked ordered there back = holds_read (filter_map hold_found stored.holds) found asked ordered there back
