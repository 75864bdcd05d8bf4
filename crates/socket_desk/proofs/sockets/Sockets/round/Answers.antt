use Rattle.std.proofs.Common.{map}
use Rattle.connections.specs.Items.{event_of}
use Rattle.socket_desk.specs.Traffic.{sockets_of}
use Rattle.socket_desk.proofs.TrafficFacts.{but_none, but_on, on_err, told_as, told_none, told_on}
use Rattle.socket_desk.proofs.sockets.Sockets.round.Goals as goal

pub returns-in_err-hear_of-clause-stopped : goal.returns-in_err-hear_of-clause-stopped
returns-in_err-hear_of-clause-stopped g c =
    on_err c.from_residual.result (but_none c.args.connections.now.slots.items (sockets_of g.T.Stream.left g.T.Stream.written c.args.self.now.sides.items) (sockets_of g.T.Stream.left g.T.Stream.written c.hear_of.new.self.sides.items) (map event_of c.args.told.now.items) (map event_of c.args.told.now.items) (told_as c.args.connections.now.slots.items (sockets_of g.T.Stream.left g.T.Stream.written c.args.self.now.sides.items) (sockets_of g.T.Stream.left g.T.Stream.written c.args.self.now.sides.items) (sockets_of g.T.Stream.left g.T.Stream.written c.hear_of.new.self.sides.items) (map event_of c.args.told.now.items) (map event_of c.args.told.now.items) c.hear_of.ensures (told_none c.args.connections.now.slots.items (sockets_of g.T.Stream.left g.T.Stream.written c.args.self.now.sides.items) (map event_of c.args.told.now.items))))

pub returns-in_err-visit_due-clause-stopped : goal.returns-in_err-visit_due-clause-stopped
returns-in_err-visit_due-clause-stopped g c =
    on_err c.from_residual-in_err-visit_due.result (but_on c.args.connections.now.slots.items (sockets_of g.T.Stream.left g.T.Stream.written c.args.self.now.sides.items) (sockets_of g.T.Stream.left g.T.Stream.written c.hear_of.new.self.sides.items) (sockets_of g.T.Stream.left g.T.Stream.written c.visit_due.new.self.sides.items) (map event_of c.args.told.now.items) (map event_of c.args.told.now.items) (map event_of c.visit_due.new.told.items) (told_as c.args.connections.now.slots.items (sockets_of g.T.Stream.left g.T.Stream.written c.args.self.now.sides.items) (sockets_of g.T.Stream.left g.T.Stream.written c.args.self.now.sides.items) (sockets_of g.T.Stream.left g.T.Stream.written c.hear_of.new.self.sides.items) (map event_of c.args.told.now.items) (map event_of c.args.told.now.items) c.hear_of.ensures (told_none c.args.connections.now.slots.items (sockets_of g.T.Stream.left g.T.Stream.written c.args.self.now.sides.items) (map event_of c.args.told.now.items))) c.in_err-visit_due.ensures.stopped)

pub returns-in_err-sweep_if_due-clause-stopped : goal.returns-in_err-sweep_if_due-clause-stopped
returns-in_err-sweep_if_due-clause-stopped g c =
    on_err c.from_residual-in_err-sweep_if_due.result (but_on c.args.connections.now.slots.items (sockets_of g.T.Stream.left g.T.Stream.written c.args.self.now.sides.items) (sockets_of g.T.Stream.left g.T.Stream.written c.visit_due.new.self.sides.items) (sockets_of g.T.Stream.left g.T.Stream.written c.sweep_if_due.new.self.sides.items) (map event_of c.args.told.now.items) (map event_of c.visit_due.new.told.items) (map event_of c.sweep_if_due.new.told.items) (told_on c.args.connections.now.slots.items (sockets_of g.T.Stream.left g.T.Stream.written c.args.self.now.sides.items) (sockets_of g.T.Stream.left g.T.Stream.written c.hear_of.new.self.sides.items) (sockets_of g.T.Stream.left g.T.Stream.written c.visit_due.new.self.sides.items) (map event_of c.args.told.now.items) (map event_of c.args.told.now.items) (map event_of c.visit_due.new.told.items) (told_as c.args.connections.now.slots.items (sockets_of g.T.Stream.left g.T.Stream.written c.args.self.now.sides.items) (sockets_of g.T.Stream.left g.T.Stream.written c.args.self.now.sides.items) (sockets_of g.T.Stream.left g.T.Stream.written c.hear_of.new.self.sides.items) (map event_of c.args.told.now.items) (map event_of c.args.told.now.items) c.hear_of.ensures (told_none c.args.connections.now.slots.items (sockets_of g.T.Stream.left g.T.Stream.written c.args.self.now.sides.items) (map event_of c.args.told.now.items))) c.in_ok-visit_due.ensures.told) c.in_err-sweep_if_due.ensures.stopped)

pub returns-in_err-accept-clause-stopped : goal.returns-in_err-accept-clause-stopped
returns-in_err-accept-clause-stopped g c =
    on_err c.from_residual-in_err-accept.result (but_on c.args.connections.now.slots.items (sockets_of g.T.Stream.left g.T.Stream.written c.args.self.now.sides.items) (sockets_of g.T.Stream.left g.T.Stream.written c.sweep_if_due.new.self.sides.items) (sockets_of g.T.Stream.left g.T.Stream.written c.accept.new.self.sides.items) (map event_of c.args.told.now.items) (map event_of c.sweep_if_due.new.told.items) (map event_of c.accept.new.told.items) (told_on c.args.connections.now.slots.items (sockets_of g.T.Stream.left g.T.Stream.written c.args.self.now.sides.items) (sockets_of g.T.Stream.left g.T.Stream.written c.visit_due.new.self.sides.items) (sockets_of g.T.Stream.left g.T.Stream.written c.sweep_if_due.new.self.sides.items) (map event_of c.args.told.now.items) (map event_of c.visit_due.new.told.items) (map event_of c.sweep_if_due.new.told.items) (told_on c.args.connections.now.slots.items (sockets_of g.T.Stream.left g.T.Stream.written c.args.self.now.sides.items) (sockets_of g.T.Stream.left g.T.Stream.written c.hear_of.new.self.sides.items) (sockets_of g.T.Stream.left g.T.Stream.written c.visit_due.new.self.sides.items) (map event_of c.args.told.now.items) (map event_of c.args.told.now.items) (map event_of c.visit_due.new.told.items) (told_as c.args.connections.now.slots.items (sockets_of g.T.Stream.left g.T.Stream.written c.args.self.now.sides.items) (sockets_of g.T.Stream.left g.T.Stream.written c.args.self.now.sides.items) (sockets_of g.T.Stream.left g.T.Stream.written c.hear_of.new.self.sides.items) (map event_of c.args.told.now.items) (map event_of c.args.told.now.items) c.hear_of.ensures (told_none c.args.connections.now.slots.items (sockets_of g.T.Stream.left g.T.Stream.written c.args.self.now.sides.items) (map event_of c.args.told.now.items))) c.in_ok-visit_due.ensures.told) c.in_ok-sweep_if_due.ensures.told) c.in_err-accept.ensures.stopped)

pub returns-in_ok-accept-clause-told : goal.returns-in_ok-accept-clause-told
returns-in_ok-accept-clause-told g c =
    told_on c.args.connections.now.slots.items (sockets_of g.T.Stream.left g.T.Stream.written c.args.self.now.sides.items) (sockets_of g.T.Stream.left g.T.Stream.written c.sweep_if_due.new.self.sides.items) (sockets_of g.T.Stream.left g.T.Stream.written c.accept.new.self.sides.items) (map event_of c.args.told.now.items) (map event_of c.sweep_if_due.new.told.items) (map event_of c.accept.new.told.items) (told_on c.args.connections.now.slots.items (sockets_of g.T.Stream.left g.T.Stream.written c.args.self.now.sides.items) (sockets_of g.T.Stream.left g.T.Stream.written c.visit_due.new.self.sides.items) (sockets_of g.T.Stream.left g.T.Stream.written c.sweep_if_due.new.self.sides.items) (map event_of c.args.told.now.items) (map event_of c.visit_due.new.told.items) (map event_of c.sweep_if_due.new.told.items) (told_on c.args.connections.now.slots.items (sockets_of g.T.Stream.left g.T.Stream.written c.args.self.now.sides.items) (sockets_of g.T.Stream.left g.T.Stream.written c.hear_of.new.self.sides.items) (sockets_of g.T.Stream.left g.T.Stream.written c.visit_due.new.self.sides.items) (map event_of c.args.told.now.items) (map event_of c.args.told.now.items) (map event_of c.visit_due.new.told.items) (told_as c.args.connections.now.slots.items (sockets_of g.T.Stream.left g.T.Stream.written c.args.self.now.sides.items) (sockets_of g.T.Stream.left g.T.Stream.written c.args.self.now.sides.items) (sockets_of g.T.Stream.left g.T.Stream.written c.hear_of.new.self.sides.items) (map event_of c.args.told.now.items) (map event_of c.args.told.now.items) c.hear_of.ensures (told_none c.args.connections.now.slots.items (sockets_of g.T.Stream.left g.T.Stream.written c.args.self.now.sides.items) (map event_of c.args.told.now.items))) c.in_ok-visit_due.ensures.told) c.in_ok-sweep_if_due.ensures.told) c.in_ok-accept.ensures.told

pub returns-else-self-clause-told : goal.returns-else-self-clause-told
returns-else-self-clause-told g c =
    told_on c.args.connections.now.slots.items (sockets_of g.T.Stream.left g.T.Stream.written c.args.self.now.sides.items) (sockets_of g.T.Stream.left g.T.Stream.written c.visit_due.new.self.sides.items) (sockets_of g.T.Stream.left g.T.Stream.written c.sweep_if_due.new.self.sides.items) (map event_of c.args.told.now.items) (map event_of c.visit_due.new.told.items) (map event_of c.sweep_if_due.new.told.items) (told_on c.args.connections.now.slots.items (sockets_of g.T.Stream.left g.T.Stream.written c.args.self.now.sides.items) (sockets_of g.T.Stream.left g.T.Stream.written c.hear_of.new.self.sides.items) (sockets_of g.T.Stream.left g.T.Stream.written c.visit_due.new.self.sides.items) (map event_of c.args.told.now.items) (map event_of c.args.told.now.items) (map event_of c.visit_due.new.told.items) (told_as c.args.connections.now.slots.items (sockets_of g.T.Stream.left g.T.Stream.written c.args.self.now.sides.items) (sockets_of g.T.Stream.left g.T.Stream.written c.args.self.now.sides.items) (sockets_of g.T.Stream.left g.T.Stream.written c.hear_of.new.self.sides.items) (map event_of c.args.told.now.items) (map event_of c.args.told.now.items) c.hear_of.ensures (told_none c.args.connections.now.slots.items (sockets_of g.T.Stream.left g.T.Stream.written c.args.self.now.sides.items) (map event_of c.args.told.now.items))) c.in_ok-visit_due.ensures.told) c.in_ok-sweep_if_due.ensures.told
