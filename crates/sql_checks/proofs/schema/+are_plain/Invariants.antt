use Rattle.std.proofs.Common.{length}
use Rattle.sql_checks.proofs.schema.+are_plain.Given as goal

-- each call is of one fewer
abbrev pub decreases-are_plain : goal.decreases-are_plain
decreases-are_plain l = length l.orders.now
