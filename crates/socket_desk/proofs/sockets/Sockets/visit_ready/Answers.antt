use Rattle.std.proofs.Common.{map}
use Rattle.connections.specs.Items.{event_of}
use Rattle.socket_desk.specs.Traffic.{sockets_of}
use Rattle.socket_desk.proofs.TrafficFacts.{but_on, on_err, told_on}
use Rattle.socket_desk.proofs.sockets.Sockets.visit_ready.Goals as goal

pub returns-in_err-visit_next-clause-stopped : goal.returns-in_err-visit_next-clause-stopped
returns-in_err-visit_next-clause-stopped g c =
    on_err c.from_residual.result (but_on c.args.connections.now.slots.items (sockets_of g.T.Stream.left g.T.Stream.written c.args.self.now.sides.items) (sockets_of g.T.Stream.left g.T.Stream.written c.loop.self.sides.items) (sockets_of g.T.Stream.left g.T.Stream.written c.visit_next.new.self.sides.items) (map event_of c.args.told.now.items) (map event_of c.loop.told.items) (map event_of c.visit_next.new.told.items) c.loop.invariant c.in_err-visit_next.ensures.stopped)

pub loop-preserved : goal.loop-preserved
loop-preserved g c =
    told_on c.args.connections.now.slots.items (sockets_of g.T.Stream.left g.T.Stream.written c.args.self.now.sides.items) (sockets_of g.T.Stream.left g.T.Stream.written c.loop.self.sides.items) (sockets_of g.T.Stream.left g.T.Stream.written c.visit_next.new.self.sides.items) (map event_of c.args.told.now.items) (map event_of c.loop.told.items) (map event_of c.visit_next.new.told.items) c.loop.invariant c.in_ok-visit_next.ensures.told
