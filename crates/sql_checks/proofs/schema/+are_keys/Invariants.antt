use Rattle.std.proofs.Common.{length}
use Rattle.sql_checks.proofs.schema.+are_keys.Given as goal

-- each call is of one fewer
abbrev pub decreases-are_keys : goal.decreases-are_keys
decreases-are_keys l = length l.keys.now
