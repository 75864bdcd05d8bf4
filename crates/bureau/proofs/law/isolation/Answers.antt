use Rattle.bureau.proofs.AgreesFacts.{alike, alone}
use Rattle.bureau.proofs.law.isolation.Goals as goal

pub returns-clause-alone : goal.returns-clause-alone
returns-clause-alone c = alone

pub returns-clause-alike : goal.returns-clause-alike
returns-clause-alike c = alike
