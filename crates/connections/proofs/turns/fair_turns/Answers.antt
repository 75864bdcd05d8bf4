use Rattle.connections.proofs.FairFacts.{fair, once}
use Rattle.connections.proofs.turns.fair_turns.Goals as goal

pub returns-clause-fair : goal.returns-clause-fair
returns-clause-fair c = fair

pub returns-clause-once : goal.returns-clause-once
returns-clause-once c = once
