-- the sockets are as they were
use Rattle.std.proofs.Common.{◌≡◌}
use Rattle.socket_desk.specs.Traffic.{sockets_of}
use Rattle.socket_desk.proofs.sockets.Sockets.hear_of.Given as goal

abbrev pub invariant-loop-event : goal.invariant-loop-event
invariant-loop-event g l =
    (goal.iterator-loop-event g).can_next l.event-iterator ×
    (goal.iterator-loop-event g).is_finite l.event-iterator ×
    (sockets_of g.T.Stream.left g.T.Stream.written l.self.sides.items ≡ sockets_of g.T.Stream.left g.T.Stream.written l.fn.self.sides.items)
