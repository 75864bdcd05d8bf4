use Rattle.requests.proofs.RouteFacts.{inserted}
use Rattle.requests.proofs.routes.put.Goals as goal
use Rattle.requests.proofs.routes.put.Goals.{in-Ok, in-Err}

pub returns : goal.returns
returns c = elim c.match-insert.branch [
  | in-Ok w ↦ rw w.result-is (inserted _ _ _ _ (rw w.in-Ok.is at c.insert.ensures))
  | in-Err w ↦ rw w.result-is tt
]
