use Rattle.std.proofs.Common.{length}
use Rattle.sql_checks.proofs.order.+name_of.Given as goal

-- each call is of one fewer
abbrev pub decreases-name_of : goal.decreases-name_of
decreases-name_of l = length l.shapes.now
