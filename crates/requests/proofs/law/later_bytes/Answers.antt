use Rattle.requests.proofs.LaterFacts.{whole_stays}
use Rattle.requests.proofs.law.later_bytes.Goals as goal

pub returns : goal.returns
returns c = whole_stays
