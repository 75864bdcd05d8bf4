use Rattle.bureau_http.proofs.ConnectionFacts.{unique}
use Rattle.bureau_http.proofs.law.one_connection.Goals as goal

pub returns : goal.returns
returns c = unique c.one_reading.ensures
