use Rattle.std.proofs.Common.{length}
use Rattle.sql_checks.proofs.schema.+are_tables.Given as goal

-- each call is of one fewer
abbrev pub decreases-are_tables : goal.decreases-are_tables
decreases-are_tables l = length l.tables.now
