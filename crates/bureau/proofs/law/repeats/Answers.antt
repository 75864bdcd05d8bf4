use Rattle.bureau.proofs.RepeatFacts.{acts_once, stays_stale}
use Rattle.bureau.proofs.law.repeats.Goals as goal

pub returns-clause-once : goal.returns-clause-once
returns-clause-once c = acts_once

pub returns-clause-stale : goal.returns-clause-stale
returns-clause-stale c = stays_stale
