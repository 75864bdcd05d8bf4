use Rattle.std.proofs.Common.{length}
use Rattle.sql_checks.proofs.schema.+are_columns.Given as goal

-- each call is of one fewer
abbrev pub decreases-are_columns : goal.decreases-are_columns
decreases-are_columns l = length l.columns.now
