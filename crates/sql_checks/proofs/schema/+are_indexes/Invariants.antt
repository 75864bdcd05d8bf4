use Rattle.std.proofs.Common.{length}
use Rattle.sql_checks.proofs.schema.+are_indexes.Given as goal

-- each call is of one fewer
abbrev pub decreases-are_indexes : goal.decreases-are_indexes
decreases-are_indexes l = length l.indexes.now
