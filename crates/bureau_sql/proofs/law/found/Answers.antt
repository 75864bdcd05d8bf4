use Rattle.bureau_sql.proofs.FilesFacts.{earlier_found, store_found}
use Rattle.bureau_sql.proofs.law.found.Goals as goal

pub returns-clause-ours : goal.returns-clause-ours
returns-clause-ours c image database this sound finds = store_found image database this sound finds

pub returns-clause-earlier : goal.returns-clause-earlier
returns-clause-earlier c image database this sound finds = earlier_found image database this sound finds
