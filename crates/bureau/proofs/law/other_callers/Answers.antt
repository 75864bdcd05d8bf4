use Rattle.bureau.proofs.AgainFacts.{acts_once_in, stays_stale_in}
use Rattle.bureau.proofs.CourseFacts.{alone_in, new_opening}
use Rattle.bureau.proofs.law.other_callers.Goals as goal

pub returns-clause-alone : goal.returns-clause-alone
returns-clause-alone c = alone_in

pub returns-clause-newcomer : goal.returns-clause-newcomer
returns-clause-newcomer c = new_opening

pub returns-clause-once : goal.returns-clause-once
returns-clause-once c = acts_once_in

pub returns-clause-stale : goal.returns-clause-stale
returns-clause-stale c = stays_stale_in
