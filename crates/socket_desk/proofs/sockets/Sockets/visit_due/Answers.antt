use Rattle.std.proofs.Common.{map}
use Rattle.connections.specs.Items.{event_of}
use Rattle.socket_desk.specs.Traffic.{sockets_of}
use Rattle.socket_desk.proofs.TrafficFacts.{but_on, then_err, then_ok, told_on}
use Rattle.socket_desk.proofs.sockets.Sockets.visit_due.Goals as goal

pub returns-clause-told : goal.returns-clause-told
returns-clause-told g c =
    then_ok c.take_turn.result (told_on c.args.connections.now.slots.items (sockets_of g.T.Stream.left g.T.Stream.written c.args.self.now.sides.items) (sockets_of g.T.Stream.left g.T.Stream.written c.visit_ready.new.self.sides.items) (sockets_of g.T.Stream.left g.T.Stream.written c.take_turn.new.self.sides.items) (map event_of c.args.told.now.items) (map event_of c.visit_ready.new.told.items) (map event_of c.take_turn.new.told.items) c.in_ok-visit_ready.ensures.told) c.take_turn.ensures.told

pub returns-clause-stopped : goal.returns-clause-stopped
returns-clause-stopped g c =
    then_err c.take_turn.result (but_on c.args.connections.now.slots.items (sockets_of g.T.Stream.left g.T.Stream.written c.args.self.now.sides.items) (sockets_of g.T.Stream.left g.T.Stream.written c.visit_ready.new.self.sides.items) (sockets_of g.T.Stream.left g.T.Stream.written c.take_turn.new.self.sides.items) (map event_of c.args.told.now.items) (map event_of c.visit_ready.new.told.items) (map event_of c.take_turn.new.told.items) c.in_ok-visit_ready.ensures.told) c.take_turn.ensures.stopped
