use Rattle.std.proofs.Common.{map}
use Rattle.connections.specs.Items.{event_of}
use Rattle.socket_desk.specs.Traffic.{sockets_of}
use Rattle.socket_desk.proofs.TrafficFacts.{but_on, on_err, told_on}
use Rattle.socket_desk.proofs.sockets.Sockets.sweep.Goals as goal

pub returns-in_err-sweep_one-clause-stopped : goal.returns-in_err-sweep_one-clause-stopped
returns-in_err-sweep_one-clause-stopped g c =
    on_err c.from_residual.result (but_on c.args.connections.now.slots.items (sockets_of g.T.Stream.left g.T.Stream.written c.args.self.now.sides.items) (sockets_of g.T.Stream.left g.T.Stream.written c.loop-slot.self.sides.items) (sockets_of g.T.Stream.left g.T.Stream.written c.sweep_one.new.self.sides.items) (map event_of c.args.told.now.items) (map event_of c.loop-slot.told.items) (map event_of c.sweep_one.new.told.items) c.loop-slot.invariant c.in_err-sweep_one.ensures.stopped)

pub loop-slot-preserved : goal.loop-slot-preserved
loop-slot-preserved g c =
    told_on c.args.connections.now.slots.items (sockets_of g.T.Stream.left g.T.Stream.written c.args.self.now.sides.items) (sockets_of g.T.Stream.left g.T.Stream.written c.loop-slot.self.sides.items) (sockets_of g.T.Stream.left g.T.Stream.written c.sweep_one.new.self.sides.items) (map event_of c.args.told.now.items) (map event_of c.loop-slot.told.items) (map event_of c.sweep_one.new.told.items) c.loop-slot.invariant c.in_ok-sweep_one.ensures.told
