use Rattle.socket_desk.specs.Traffic.{sockets_of}
use Rattle.socket_desk.proofs.TrafficFacts.{last_more}
use Rattle.socket_desk.proofs.sockets.Sockets.show_last.Goals as goal

pub loop-slot-preserved : goal.loop-slot-preserved
loop-slot-preserved g c =
    last_more c.args.connections.now.slots.items (sockets_of g.T.Stream.left g.T.Stream.written c.args.self.now.sides.items) (sockets_of g.T.Stream.left g.T.Stream.written c.loop-slot.self.sides.items) (sockets_of g.T.Stream.left g.T.Stream.written c.end_writing.new.self.sides.items) c.loop-slot.invariant (last_more c.args.connections.now.slots.items (sockets_of g.T.Stream.left g.T.Stream.written c.loop-slot.self.sides.items) (sockets_of g.T.Stream.left g.T.Stream.written c.show_one.new.self.sides.items) (sockets_of g.T.Stream.left g.T.Stream.written c.end_writing.new.self.sides.items) c.show_one.ensures (c.end_writing.ensures c.args.connections.now.slots.items))
