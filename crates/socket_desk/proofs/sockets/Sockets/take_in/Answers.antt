use Rattle.socket_desk.proofs.TrafficFacts.{on_err}
use Rattle.socket_desk.proofs.sockets.Sockets.take_in.Goals as goal

pub returns-in_err-take_place-clause-stopped : goal.returns-in_err-take_place-clause-stopped
returns-in_err-take_place-clause-stopped g c shown =
    on_err c.from_residual.result (c.in_err-take_place.ensures.stopped shown)
