use Rattle.std.proofs.Common.{length}
use Rattle.sql_checks.proofs.order.+has_tables.Given as goal

-- each call is of one fewer
abbrev pub decreases-has_tables : goal.decreases-has_tables
decreases-has_tables l = length l.shapes.now
