use Rattle.requests.proofs.ProgressFacts.{none_seen}
use Rattle.requests.proofs.progress.Progress.new.Goals as goal

pub returns : goal.returns
returns c = none_seen
