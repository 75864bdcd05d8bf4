use Rattle.std.proofs.Common.{length}
use Rattle.sql_checks.proofs.order.+has_indexes.Given as goal

-- each call is of one fewer
abbrev pub decreases-has_indexes : goal.decreases-has_indexes
decreases-has_indexes l = length l.shapes.now
