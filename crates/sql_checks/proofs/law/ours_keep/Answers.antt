use Rattle.sql_checks.proofs.WrittenFacts.{ours_keep as taken}
use Rattle.sql_checks.proofs.law.ours_keep.Goals as goal

pub returns : goal.returns
returns c = taken
