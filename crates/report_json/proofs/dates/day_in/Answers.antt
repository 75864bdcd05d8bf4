use Rattle.report_json.proofs.DateFacts.{days_found}
use Rattle.report_json.proofs.dates.day_in.Goals as goal

pub returns-clause-law : goal.returns-clause-law
returns-clause-law c = days_found
