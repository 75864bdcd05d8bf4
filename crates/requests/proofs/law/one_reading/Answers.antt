use Rattle.requests.proofs.ReadingFacts.{one_next}
use Rattle.requests.proofs.law.one_reading.Goals as goal

pub returns : goal.returns
returns c = one_next
