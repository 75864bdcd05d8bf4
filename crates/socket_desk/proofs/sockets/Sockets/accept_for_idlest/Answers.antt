use Rattle.std.proofs.Common.{map}
use Rattle.connections.specs.Items.{event_of}
use Rattle.socket_desk.specs.Traffic.{sockets_of}
use Rattle.socket_desk.proofs.TrafficFacts.{but_on, on_err, then_err, then_ok, told_on}
use Rattle.socket_desk.proofs.sockets.Sockets.accept_for_idlest.Goals as goal

pub returns-in_err-end-clause-stopped : goal.returns-in_err-end-clause-stopped
returns-in_err-end-clause-stopped g c =
    on_err c.from_residual.result (c.in_err-end.ensures.stopped c.args.connections.now.slots.items)

pub returns-in-Ok-clause-told : goal.returns-in-Ok-clause-told
returns-in-Ok-clause-told g c =
    then_ok c.take_in.result (told_on c.args.connections.now.slots.items (sockets_of g.T.Stream.left g.T.Stream.written c.args.self.now.sides.items) (sockets_of g.T.Stream.left g.T.Stream.written c.end.new.self.sides.items) (sockets_of g.T.Stream.left g.T.Stream.written c.take_in.new.self.sides.items) (map event_of c.args.told.now.items) (map event_of c.end.new.told.items) (map event_of c.take_in.new.told.items) (c.in_ok-end.ensures.told c.args.connections.now.slots.items)) (c.take_in.ensures.told c.args.connections.now.slots.items)

pub returns-in-Ok-clause-stopped : goal.returns-in-Ok-clause-stopped
returns-in-Ok-clause-stopped g c =
    then_err c.take_in.result (but_on c.args.connections.now.slots.items (sockets_of g.T.Stream.left g.T.Stream.written c.args.self.now.sides.items) (sockets_of g.T.Stream.left g.T.Stream.written c.end.new.self.sides.items) (sockets_of g.T.Stream.left g.T.Stream.written c.take_in.new.self.sides.items) (map event_of c.args.told.now.items) (map event_of c.end.new.told.items) (map event_of c.take_in.new.told.items) (c.in_ok-end.ensures.told c.args.connections.now.slots.items)) (c.take_in.ensures.stopped c.args.connections.now.slots.items)

pub returns-in-Err-clause-told : goal.returns-in-Err-clause-told
returns-in-Err-clause-told g c =
    c.in_ok-end.ensures.told c.args.connections.now.slots.items
