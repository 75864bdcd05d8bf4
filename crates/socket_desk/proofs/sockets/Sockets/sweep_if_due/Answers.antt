use Rattle.std.proofs.Common.{map}
use Rattle.connections.specs.Items.{event_of}
use Rattle.socket_desk.specs.Traffic.{sockets_of}
use Rattle.socket_desk.proofs.TrafficFacts.{but_none, but_on, on_err, then_err, then_ok, told_as, told_none, told_on}
use Rattle.socket_desk.proofs.sockets.Sockets.sweep_if_due.Goals as goal

pub returns-in_err-has_heard-clause-stopped : goal.returns-in_err-has_heard-clause-stopped
returns-in_err-has_heard-clause-stopped g c =
    on_err c.from_residual.result (but_none c.args.connections.now.slots.items (sockets_of g.T.Stream.left g.T.Stream.written c.args.self.now.sides.items) (sockets_of g.T.Stream.left g.T.Stream.written c.hear_all.new.self.sides.items) (map event_of c.args.told.now.items) (map event_of c.args.told.now.items) (told_as c.args.connections.now.slots.items (sockets_of g.T.Stream.left g.T.Stream.written c.args.self.now.sides.items) (sockets_of g.T.Stream.left g.T.Stream.written c.args.self.now.sides.items) (sockets_of g.T.Stream.left g.T.Stream.written c.hear_all.new.self.sides.items) (map event_of c.args.told.now.items) (map event_of c.args.told.now.items) c.hear_all.ensures (told_none c.args.connections.now.slots.items (sockets_of g.T.Stream.left g.T.Stream.written c.args.self.now.sides.items) (map event_of c.args.told.now.items))))

pub returns-then-not-has_heard-clause-told : goal.returns-then-not-has_heard-clause-told
returns-then-not-has_heard-clause-told g c =
    told_as c.args.connections.now.slots.items (sockets_of g.T.Stream.left g.T.Stream.written c.args.self.now.sides.items) (sockets_of g.T.Stream.left g.T.Stream.written c.args.self.now.sides.items) (sockets_of g.T.Stream.left g.T.Stream.written c.hear_all.new.self.sides.items) (map event_of c.args.told.now.items) (map event_of c.args.told.now.items) c.hear_all.ensures (told_none c.args.connections.now.slots.items (sockets_of g.T.Stream.left g.T.Stream.written c.args.self.now.sides.items) (map event_of c.args.told.now.items))

pub returns-clause-told : goal.returns-clause-told
returns-clause-told g c =
    then_ok c.sweep.result (told_on c.args.connections.now.slots.items (sockets_of g.T.Stream.left g.T.Stream.written c.args.self.now.sides.items) (sockets_of g.T.Stream.left g.T.Stream.written c.hear_all.new.self.sides.items) (sockets_of g.T.Stream.left g.T.Stream.written c.sweep.new.self.sides.items) (map event_of c.args.told.now.items) (map event_of c.args.told.now.items) (map event_of c.sweep.new.told.items) (told_as c.args.connections.now.slots.items (sockets_of g.T.Stream.left g.T.Stream.written c.args.self.now.sides.items) (sockets_of g.T.Stream.left g.T.Stream.written c.args.self.now.sides.items) (sockets_of g.T.Stream.left g.T.Stream.written c.hear_all.new.self.sides.items) (map event_of c.args.told.now.items) (map event_of c.args.told.now.items) c.hear_all.ensures (told_none c.args.connections.now.slots.items (sockets_of g.T.Stream.left g.T.Stream.written c.args.self.now.sides.items) (map event_of c.args.told.now.items)))) c.sweep.ensures.told

pub returns-clause-stopped : goal.returns-clause-stopped
returns-clause-stopped g c =
    then_err c.sweep.result (but_on c.args.connections.now.slots.items (sockets_of g.T.Stream.left g.T.Stream.written c.args.self.now.sides.items) (sockets_of g.T.Stream.left g.T.Stream.written c.hear_all.new.self.sides.items) (sockets_of g.T.Stream.left g.T.Stream.written c.sweep.new.self.sides.items) (map event_of c.args.told.now.items) (map event_of c.args.told.now.items) (map event_of c.sweep.new.told.items) (told_as c.args.connections.now.slots.items (sockets_of g.T.Stream.left g.T.Stream.written c.args.self.now.sides.items) (sockets_of g.T.Stream.left g.T.Stream.written c.args.self.now.sides.items) (sockets_of g.T.Stream.left g.T.Stream.written c.hear_all.new.self.sides.items) (map event_of c.args.told.now.items) (map event_of c.args.told.now.items) c.hear_all.ensures (told_none c.args.connections.now.slots.items (sockets_of g.T.Stream.left g.T.Stream.written c.args.self.now.sides.items) (map event_of c.args.told.now.items)))) c.sweep.ensures.stopped
