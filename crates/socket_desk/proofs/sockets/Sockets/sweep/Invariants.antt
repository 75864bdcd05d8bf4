-- what was told so far of what happened
use Rattle.std.proofs.Common.{map}
use Rattle.connections.specs.Items.{event_of}
use Rattle.socket_desk.specs.Traffic.{AreTold, sockets_of}
use Rattle.socket_desk.proofs.sockets.Sockets.sweep.Given as goal

abbrev pub invariant-loop-slot : goal.invariant-loop-slot
invariant-loop-slot g l =
    AreTold l.connections.slots.items (sockets_of g.T.Stream.left g.T.Stream.written l.fn.self.sides.items) (map event_of l.fn.told.items) (sockets_of g.T.Stream.left g.T.Stream.written l.self.sides.items) (map event_of l.told.items)
