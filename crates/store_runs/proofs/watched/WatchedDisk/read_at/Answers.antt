use Rattle.store_runs.proofs.WatchedFacts.{stays_frozen}
use Rattle.store_runs.proofs.watched.WatchedDisk.read_at.Goals as goal

pub returns-clause-frozen : goal.returns-clause-frozen
returns-clause-frozen g c = λ frozen. let it = c.read_at.ensures.frozen frozen in (it.0, stays_frozen g.D.Disk it.1)
