-- the sockets are as they were
use Rattle.std.proofs.Common.{◌≡◌}
use Rattle.socket_desk.specs.Traffic.{sockets_of}
use Rattle.socket_desk.proofs.sockets.Sockets.retry_short.Given as goal

abbrev pub invariant-loop : goal.invariant-loop
invariant-loop g l =
    sockets_of g.T.Stream.left g.T.Stream.written l.self.sides.items ≡ sockets_of g.T.Stream.left g.T.Stream.written l.fn.self.sides.items
