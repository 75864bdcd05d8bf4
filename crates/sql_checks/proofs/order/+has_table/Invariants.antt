use Rattle.std.proofs.Common.{length}
use Rattle.sql_checks.proofs.order.+has_table.Given as goal

-- each call is of one fewer
abbrev pub decreases-has_table : goal.decreases-has_table
decreases-has_table l = length l.tables.now
