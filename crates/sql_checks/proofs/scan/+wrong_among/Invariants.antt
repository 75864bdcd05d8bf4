use Rattle.std.proofs.Common.{length}
use Rattle.sql_checks.proofs.scan.+wrong_among.Given as goal

-- each call is of one table fewer
abbrev pub decreases-wrong_among : goal.decreases-wrong_among
decreases-wrong_among g l = length l.tables.now
