use Rattle.catalogue.proofs.ReadingFacts.{headers_open, read_all}
use Rattle.catalogue.proofs.reading.ChangeReader.finish.Goals as goal

pub returns-clause-law : goal.returns-clause-law
returns-clause-law c = read_all

pub returns-clause-headers : goal.returns-clause-headers
returns-clause-headers c = headers_open
