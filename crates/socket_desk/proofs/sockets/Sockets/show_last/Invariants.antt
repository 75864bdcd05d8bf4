-- what was written so far
use Rattle.socket_desk.specs.Traffic.{AreShownLast, sockets_of}
use Rattle.socket_desk.proofs.sockets.Sockets.show_last.Given as goal

abbrev pub invariant-loop-slot : goal.invariant-loop-slot
invariant-loop-slot g l =
    AreShownLast l.connections.slots.items (sockets_of g.T.Stream.left g.T.Stream.written l.fn.self.sides.items) (sockets_of g.T.Stream.left g.T.Stream.written l.self.sides.items)
