use Rattle.std.proofs.Common.{length}
use Rattle.sql_checks.proofs.order.+has_index.Given as goal

-- each call is of one fewer
abbrev pub decreases-has_index : goal.decreases-has_index
decreases-has_index l = length l.indexes.now
