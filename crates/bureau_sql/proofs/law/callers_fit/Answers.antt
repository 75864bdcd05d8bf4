use Rattle.bureau_sql.proofs.CallersFacts as facts
use Rattle.bureau_sql.proofs.law.callers_fit.Goals as goal

pub returns : goal.returns
returns c text rows is = facts.callers_fit text rows is
