use Rattle.std.proofs.Common.{length}
use Rattle.sql_checks.proofs.order.+name_in.Given as goal

-- each call is of one fewer
abbrev pub decreases-name_in : goal.decreases-name_in
decreases-name_in l = length l.tables.now
