use Rattle.std.proofs.Common.{◌∙◌, map, refl, slice_get}
use Rattle.connections.specs.Items.{event_of, failed}
use Rattle.socket_desk.specs.Traffic.{socket_of, sockets_of}
use Rattle.socket_desk.specs.declared.visits.Visit.TheVariants.{Told, Goes, Waits, Short, Turn, Failed, Over}
use Rattle.socket_desk.proofs.TrafficFacts.{again_in, but_none, on_err, on_ok, then_err, then_ok, told_not, told_one, visit_as, visit_failed, visit_over, visit_passes, visit_told}
use Rattle.socket_desk.proofs.sockets.Sockets.visit.Goals as goal

pub returns-in_err-put_in-in-Told-clause-stopped : goal.returns-in_err-put_in-in-Told-clause-stopped
returns-in_err-put_in-in-Told-clause-stopped g c =
    on_err c.from_residual.result (told_not c.args.connections.now.slots.items (sockets_of g.T.Stream.left g.T.Stream.written c.args.self.now.sides.items) (sockets_of g.T.Stream.left g.T.Stream.written c.put_in.new.self.sides.items) (map event_of c.args.told.now.items) (map event_of c.args.told.now.items) (event_of c.in-Told.event)
    (visit_told g.T.Stream.left g.T.Stream.written c.args.connections.now.slots.items c.args.self.now.sides.items (sockets_of g.T.Stream.left g.T.Stream.written c.put_in.new.self.sides.items) c.args.slot c.in-Some.side (socket_of g.T.Stream.left g.T.Stream.written c.transfer.new.side) (event_of c.in-Told.event) c.in-Some.ensures.some
    (again_in g.T.Stream.left g.T.Stream.written c.args.self.now.sides.items c.transfer.new.self.sides.items (sockets_of g.T.Stream.left g.T.Stream.written c.put_in.new.self.sides.items) c.args.slot (socket_of g.T.Stream.left g.T.Stream.written c.transfer.new.side) (c.transfer.ensures.sides ∙ c.in-Some.ensures.new) c.put_in.ensures) (visit_as c.args.slot (slice_get c.args.connections.now.slots.items c.args.slot) c.transfer.result (Told c.in-Told.event) (socket_of g.T.Stream.left g.T.Stream.written c.in-Some.side) (socket_of g.T.Stream.left g.T.Stream.written c.transfer.new.side) c.in-Told.is c.transfer.ensures.visit)) refl)

pub returns-in_ok-put_in-in-Told-clause-told : goal.returns-in_ok-put_in-in-Told-clause-told
returns-in_ok-put_in-in-Told-clause-told g c =
    then_ok c.tell.result (told_one c.args.connections.now.slots.items (sockets_of g.T.Stream.left g.T.Stream.written c.args.self.now.sides.items) (sockets_of g.T.Stream.left g.T.Stream.written c.put_in.new.self.sides.items) (map event_of c.args.told.now.items) (map event_of c.tell.new.told.items) (event_of c.in-Told.event)
    (visit_told g.T.Stream.left g.T.Stream.written c.args.connections.now.slots.items c.args.self.now.sides.items (sockets_of g.T.Stream.left g.T.Stream.written c.put_in.new.self.sides.items) c.args.slot c.in-Some.side (socket_of g.T.Stream.left g.T.Stream.written c.transfer.new.side) (event_of c.in-Told.event) c.in-Some.ensures.some
    (again_in g.T.Stream.left g.T.Stream.written c.args.self.now.sides.items c.transfer.new.self.sides.items (sockets_of g.T.Stream.left g.T.Stream.written c.put_in.new.self.sides.items) c.args.slot (socket_of g.T.Stream.left g.T.Stream.written c.transfer.new.side) (c.transfer.ensures.sides ∙ c.in-Some.ensures.new) c.put_in.ensures) (visit_as c.args.slot (slice_get c.args.connections.now.slots.items c.args.slot) c.transfer.result (Told c.in-Told.event) (socket_of g.T.Stream.left g.T.Stream.written c.in-Some.side) (socket_of g.T.Stream.left g.T.Stream.written c.transfer.new.side) c.in-Told.is c.transfer.ensures.visit))) c.tell.ensures.told

pub returns-in_ok-put_in-in-Told-clause-stopped : goal.returns-in_ok-put_in-in-Told-clause-stopped
returns-in_ok-put_in-in-Told-clause-stopped g c =
    then_err c.tell.result (told_not c.args.connections.now.slots.items (sockets_of g.T.Stream.left g.T.Stream.written c.args.self.now.sides.items) (sockets_of g.T.Stream.left g.T.Stream.written c.put_in.new.self.sides.items) (map event_of c.args.told.now.items) (map event_of c.tell.new.told.items) (event_of c.in-Told.event)
    (visit_told g.T.Stream.left g.T.Stream.written c.args.connections.now.slots.items c.args.self.now.sides.items (sockets_of g.T.Stream.left g.T.Stream.written c.put_in.new.self.sides.items) c.args.slot c.in-Some.side (socket_of g.T.Stream.left g.T.Stream.written c.transfer.new.side) (event_of c.in-Told.event) c.in-Some.ensures.some
    (again_in g.T.Stream.left g.T.Stream.written c.args.self.now.sides.items c.transfer.new.self.sides.items (sockets_of g.T.Stream.left g.T.Stream.written c.put_in.new.self.sides.items) c.args.slot (socket_of g.T.Stream.left g.T.Stream.written c.transfer.new.side) (c.transfer.ensures.sides ∙ c.in-Some.ensures.new) c.put_in.ensures) (visit_as c.args.slot (slice_get c.args.connections.now.slots.items c.args.slot) c.transfer.result (Told c.in-Told.event) (socket_of g.T.Stream.left g.T.Stream.written c.in-Some.side) (socket_of g.T.Stream.left g.T.Stream.written c.transfer.new.side) c.in-Told.is c.transfer.ensures.visit))) c.tell.ensures.same

pub returns-in-Goes-clause-told : goal.returns-in-Goes-clause-told
returns-in-Goes-clause-told g c =
    on_ok c.put_in-in-Goes.result (visit_passes g.T.Stream.left g.T.Stream.written c.args.connections.now.slots.items c.args.self.now.sides.items (sockets_of g.T.Stream.left g.T.Stream.written c.put_in-in-Goes.new.self.sides.items) c.args.slot c.in-Some.side (socket_of g.T.Stream.left g.T.Stream.written c.transfer.new.side) (map event_of c.args.told.now.items) c.in-Some.ensures.some
    (again_in g.T.Stream.left g.T.Stream.written c.args.self.now.sides.items c.transfer.new.self.sides.items (sockets_of g.T.Stream.left g.T.Stream.written c.put_in-in-Goes.new.self.sides.items) c.args.slot (socket_of g.T.Stream.left g.T.Stream.written c.transfer.new.side) (c.transfer.ensures.sides ∙ c.in-Some.ensures.new) c.put_in-in-Goes.ensures) (visit_as c.args.slot (slice_get c.args.connections.now.slots.items c.args.slot) c.transfer.result Goes (socket_of g.T.Stream.left g.T.Stream.written c.in-Some.side) (socket_of g.T.Stream.left g.T.Stream.written c.transfer.new.side) c.in-Goes.is c.transfer.ensures.visit))

pub returns-in-Goes-clause-stopped : goal.returns-in-Goes-clause-stopped
returns-in-Goes-clause-stopped g c =
    on_err c.put_in-in-Goes.result (but_none c.args.connections.now.slots.items (sockets_of g.T.Stream.left g.T.Stream.written c.args.self.now.sides.items) (sockets_of g.T.Stream.left g.T.Stream.written c.put_in-in-Goes.new.self.sides.items) (map event_of c.args.told.now.items) (map event_of c.args.told.now.items)
    (visit_passes g.T.Stream.left g.T.Stream.written c.args.connections.now.slots.items c.args.self.now.sides.items (sockets_of g.T.Stream.left g.T.Stream.written c.put_in-in-Goes.new.self.sides.items) c.args.slot c.in-Some.side (socket_of g.T.Stream.left g.T.Stream.written c.transfer.new.side) (map event_of c.args.told.now.items) c.in-Some.ensures.some
    (again_in g.T.Stream.left g.T.Stream.written c.args.self.now.sides.items c.transfer.new.self.sides.items (sockets_of g.T.Stream.left g.T.Stream.written c.put_in-in-Goes.new.self.sides.items) c.args.slot (socket_of g.T.Stream.left g.T.Stream.written c.transfer.new.side) (c.transfer.ensures.sides ∙ c.in-Some.ensures.new) c.put_in-in-Goes.ensures) (visit_as c.args.slot (slice_get c.args.connections.now.slots.items c.args.slot) c.transfer.result Goes (socket_of g.T.Stream.left g.T.Stream.written c.in-Some.side) (socket_of g.T.Stream.left g.T.Stream.written c.transfer.new.side) c.in-Goes.is c.transfer.ensures.visit)))

pub returns-in-Waits-clause-told : goal.returns-in-Waits-clause-told
returns-in-Waits-clause-told g c =
    on_ok c.put_in-in-Waits.result (visit_passes g.T.Stream.left g.T.Stream.written c.args.connections.now.slots.items c.args.self.now.sides.items (sockets_of g.T.Stream.left g.T.Stream.written c.put_in-in-Waits.new.self.sides.items) c.args.slot c.in-Some.side (socket_of g.T.Stream.left g.T.Stream.written c.transfer.new.side) (map event_of c.args.told.now.items) c.in-Some.ensures.some
    (again_in g.T.Stream.left g.T.Stream.written c.args.self.now.sides.items c.transfer.new.self.sides.items (sockets_of g.T.Stream.left g.T.Stream.written c.put_in-in-Waits.new.self.sides.items) c.args.slot (socket_of g.T.Stream.left g.T.Stream.written c.transfer.new.side) (c.transfer.ensures.sides ∙ c.in-Some.ensures.new) c.put_in-in-Waits.ensures) (visit_as c.args.slot (slice_get c.args.connections.now.slots.items c.args.slot) c.transfer.result Waits (socket_of g.T.Stream.left g.T.Stream.written c.in-Some.side) (socket_of g.T.Stream.left g.T.Stream.written c.transfer.new.side) c.in-Waits.is c.transfer.ensures.visit))

pub returns-in-Waits-clause-stopped : goal.returns-in-Waits-clause-stopped
returns-in-Waits-clause-stopped g c =
    on_err c.put_in-in-Waits.result (but_none c.args.connections.now.slots.items (sockets_of g.T.Stream.left g.T.Stream.written c.args.self.now.sides.items) (sockets_of g.T.Stream.left g.T.Stream.written c.put_in-in-Waits.new.self.sides.items) (map event_of c.args.told.now.items) (map event_of c.args.told.now.items)
    (visit_passes g.T.Stream.left g.T.Stream.written c.args.connections.now.slots.items c.args.self.now.sides.items (sockets_of g.T.Stream.left g.T.Stream.written c.put_in-in-Waits.new.self.sides.items) c.args.slot c.in-Some.side (socket_of g.T.Stream.left g.T.Stream.written c.transfer.new.side) (map event_of c.args.told.now.items) c.in-Some.ensures.some
    (again_in g.T.Stream.left g.T.Stream.written c.args.self.now.sides.items c.transfer.new.self.sides.items (sockets_of g.T.Stream.left g.T.Stream.written c.put_in-in-Waits.new.self.sides.items) c.args.slot (socket_of g.T.Stream.left g.T.Stream.written c.transfer.new.side) (c.transfer.ensures.sides ∙ c.in-Some.ensures.new) c.put_in-in-Waits.ensures) (visit_as c.args.slot (slice_get c.args.connections.now.slots.items c.args.slot) c.transfer.result Waits (socket_of g.T.Stream.left g.T.Stream.written c.in-Some.side) (socket_of g.T.Stream.left g.T.Stream.written c.transfer.new.side) c.in-Waits.is c.transfer.ensures.visit)))

pub returns-in-Short-clause-told : goal.returns-in-Short-clause-told
returns-in-Short-clause-told g c =
    on_ok c.put_in-in-Short.result (visit_passes g.T.Stream.left g.T.Stream.written c.args.connections.now.slots.items c.args.self.now.sides.items (sockets_of g.T.Stream.left g.T.Stream.written c.put_in-in-Short.new.self.sides.items) c.args.slot c.in-Some.side (socket_of g.T.Stream.left g.T.Stream.written c.transfer.new.side) (map event_of c.args.told.now.items) c.in-Some.ensures.some
    (again_in g.T.Stream.left g.T.Stream.written c.args.self.now.sides.items c.transfer.new.self.sides.items (sockets_of g.T.Stream.left g.T.Stream.written c.put_in-in-Short.new.self.sides.items) c.args.slot (socket_of g.T.Stream.left g.T.Stream.written c.transfer.new.side) (c.transfer.ensures.sides ∙ c.in-Some.ensures.new) c.put_in-in-Short.ensures) (visit_as c.args.slot (slice_get c.args.connections.now.slots.items c.args.slot) c.transfer.result Short (socket_of g.T.Stream.left g.T.Stream.written c.in-Some.side) (socket_of g.T.Stream.left g.T.Stream.written c.transfer.new.side) c.in-Short.is c.transfer.ensures.visit))

pub returns-in-Short-clause-stopped : goal.returns-in-Short-clause-stopped
returns-in-Short-clause-stopped g c =
    on_err c.put_in-in-Short.result (but_none c.args.connections.now.slots.items (sockets_of g.T.Stream.left g.T.Stream.written c.args.self.now.sides.items) (sockets_of g.T.Stream.left g.T.Stream.written c.put_in-in-Short.new.self.sides.items) (map event_of c.args.told.now.items) (map event_of c.args.told.now.items)
    (visit_passes g.T.Stream.left g.T.Stream.written c.args.connections.now.slots.items c.args.self.now.sides.items (sockets_of g.T.Stream.left g.T.Stream.written c.put_in-in-Short.new.self.sides.items) c.args.slot c.in-Some.side (socket_of g.T.Stream.left g.T.Stream.written c.transfer.new.side) (map event_of c.args.told.now.items) c.in-Some.ensures.some
    (again_in g.T.Stream.left g.T.Stream.written c.args.self.now.sides.items c.transfer.new.self.sides.items (sockets_of g.T.Stream.left g.T.Stream.written c.put_in-in-Short.new.self.sides.items) c.args.slot (socket_of g.T.Stream.left g.T.Stream.written c.transfer.new.side) (c.transfer.ensures.sides ∙ c.in-Some.ensures.new) c.put_in-in-Short.ensures) (visit_as c.args.slot (slice_get c.args.connections.now.slots.items c.args.slot) c.transfer.result Short (socket_of g.T.Stream.left g.T.Stream.written c.in-Some.side) (socket_of g.T.Stream.left g.T.Stream.written c.transfer.new.side) c.in-Short.is c.transfer.ensures.visit)))

pub returns-in-Turn-clause-told : goal.returns-in-Turn-clause-told
returns-in-Turn-clause-told g c =
    on_ok c.put_in-in-Turn.result (visit_passes g.T.Stream.left g.T.Stream.written c.args.connections.now.slots.items c.args.self.now.sides.items (sockets_of g.T.Stream.left g.T.Stream.written c.put_in-in-Turn.new.self.sides.items) c.args.slot c.in-Some.side (socket_of g.T.Stream.left g.T.Stream.written c.transfer.new.side) (map event_of c.args.told.now.items) c.in-Some.ensures.some
    (again_in g.T.Stream.left g.T.Stream.written c.args.self.now.sides.items c.transfer.new.self.sides.items (sockets_of g.T.Stream.left g.T.Stream.written c.put_in-in-Turn.new.self.sides.items) c.args.slot (socket_of g.T.Stream.left g.T.Stream.written c.transfer.new.side) (c.transfer.ensures.sides ∙ c.in-Some.ensures.new) c.put_in-in-Turn.ensures) (visit_as c.args.slot (slice_get c.args.connections.now.slots.items c.args.slot) c.transfer.result Turn (socket_of g.T.Stream.left g.T.Stream.written c.in-Some.side) (socket_of g.T.Stream.left g.T.Stream.written c.transfer.new.side) c.in-Turn.is c.transfer.ensures.visit))

pub returns-in-Turn-clause-stopped : goal.returns-in-Turn-clause-stopped
returns-in-Turn-clause-stopped g c =
    on_err c.put_in-in-Turn.result (but_none c.args.connections.now.slots.items (sockets_of g.T.Stream.left g.T.Stream.written c.args.self.now.sides.items) (sockets_of g.T.Stream.left g.T.Stream.written c.put_in-in-Turn.new.self.sides.items) (map event_of c.args.told.now.items) (map event_of c.args.told.now.items)
    (visit_passes g.T.Stream.left g.T.Stream.written c.args.connections.now.slots.items c.args.self.now.sides.items (sockets_of g.T.Stream.left g.T.Stream.written c.put_in-in-Turn.new.self.sides.items) c.args.slot c.in-Some.side (socket_of g.T.Stream.left g.T.Stream.written c.transfer.new.side) (map event_of c.args.told.now.items) c.in-Some.ensures.some
    (again_in g.T.Stream.left g.T.Stream.written c.args.self.now.sides.items c.transfer.new.self.sides.items (sockets_of g.T.Stream.left g.T.Stream.written c.put_in-in-Turn.new.self.sides.items) c.args.slot (socket_of g.T.Stream.left g.T.Stream.written c.transfer.new.side) (c.transfer.ensures.sides ∙ c.in-Some.ensures.new) c.put_in-in-Turn.ensures) (visit_as c.args.slot (slice_get c.args.connections.now.slots.items c.args.slot) c.transfer.result Turn (socket_of g.T.Stream.left g.T.Stream.written c.in-Some.side) (socket_of g.T.Stream.left g.T.Stream.written c.transfer.new.side) c.in-Turn.is c.transfer.ensures.visit)))

pub returns-in_err-tell-in-Failed-clause-stopped : goal.returns-in_err-tell-in-Failed-clause-stopped
returns-in_err-tell-in-Failed-clause-stopped g c =
    on_err c.from_residual-in_err-tell-in-Failed.result (told_not c.args.connections.now.slots.items (sockets_of g.T.Stream.left g.T.Stream.written c.args.self.now.sides.items) (sockets_of g.T.Stream.left g.T.Stream.written c.transfer.new.self.sides.items) (map event_of c.args.told.now.items) (map event_of c.tell-in-Failed.new.told.items) (failed c.args.slot)
    (visit_failed g.T.Stream.left g.T.Stream.written c.args.connections.now.slots.items c.args.self.now.sides.items c.transfer.new.self.sides.items c.args.slot c.in-Some.side c.in-Some.ensures.some (c.transfer.ensures.sides ∙ c.in-Some.ensures.new) (visit_as c.args.slot (slice_get c.args.connections.now.slots.items c.args.slot) c.transfer.result Failed (socket_of g.T.Stream.left g.T.Stream.written c.in-Some.side) (socket_of g.T.Stream.left g.T.Stream.written c.transfer.new.side) c.in-Failed.is c.transfer.ensures.visit).0) c.in_err-tell-in-Failed.ensures.same)

pub returns-in_ok-tell-in-Failed-clause-told : goal.returns-in_ok-tell-in-Failed-clause-told
returns-in_ok-tell-in-Failed-clause-told g c =
    on_ok c.leave.result (told_one c.args.connections.now.slots.items (sockets_of g.T.Stream.left g.T.Stream.written c.args.self.now.sides.items) (sockets_of g.T.Stream.left g.T.Stream.written c.leave.new.self.sides.items) (map event_of c.args.told.now.items) (map event_of c.tell-in-Failed.new.told.items) (failed c.args.slot)
    (visit_failed g.T.Stream.left g.T.Stream.written c.args.connections.now.slots.items c.args.self.now.sides.items c.leave.new.self.sides.items c.args.slot c.in-Some.side c.in-Some.ensures.some (c.leave.ensures ∙ c.transfer.ensures.sides ∙ c.in-Some.ensures.new) (visit_as c.args.slot (slice_get c.args.connections.now.slots.items c.args.slot) c.transfer.result Failed (socket_of g.T.Stream.left g.T.Stream.written c.in-Some.side) (socket_of g.T.Stream.left g.T.Stream.written c.transfer.new.side) c.in-Failed.is c.transfer.ensures.visit).0) c.in_ok-tell-in-Failed.ensures.told)

pub returns-in_ok-tell-in-Failed-clause-stopped : goal.returns-in_ok-tell-in-Failed-clause-stopped
returns-in_ok-tell-in-Failed-clause-stopped g c =
    on_err c.leave.result (but_none c.args.connections.now.slots.items (sockets_of g.T.Stream.left g.T.Stream.written c.args.self.now.sides.items) (sockets_of g.T.Stream.left g.T.Stream.written c.leave.new.self.sides.items) (map event_of c.args.told.now.items) (map event_of c.tell-in-Failed.new.told.items)
    (told_one c.args.connections.now.slots.items (sockets_of g.T.Stream.left g.T.Stream.written c.args.self.now.sides.items) (sockets_of g.T.Stream.left g.T.Stream.written c.leave.new.self.sides.items) (map event_of c.args.told.now.items) (map event_of c.tell-in-Failed.new.told.items) (failed c.args.slot)
    (visit_failed g.T.Stream.left g.T.Stream.written c.args.connections.now.slots.items c.args.self.now.sides.items c.leave.new.self.sides.items c.args.slot c.in-Some.side c.in-Some.ensures.some (c.leave.ensures ∙ c.transfer.ensures.sides ∙ c.in-Some.ensures.new) (visit_as c.args.slot (slice_get c.args.connections.now.slots.items c.args.slot) c.transfer.result Failed (socket_of g.T.Stream.left g.T.Stream.written c.in-Some.side) (socket_of g.T.Stream.left g.T.Stream.written c.transfer.new.side) c.in-Failed.is c.transfer.ensures.visit).0) c.in_ok-tell-in-Failed.ensures.told))

pub returns-in-Over-clause-told : goal.returns-in-Over-clause-told
returns-in-Over-clause-told g c =
    on_ok c.leave-in-Over.result (visit_over g.T.Stream.left g.T.Stream.written c.args.connections.now.slots.items c.args.self.now.sides.items c.leave-in-Over.new.self.sides.items c.args.slot c.in-Some.side (map event_of c.args.told.now.items) c.in-Some.ensures.some (c.leave-in-Over.ensures ∙ c.transfer.ensures.sides ∙ c.in-Some.ensures.new) (visit_as c.args.slot (slice_get c.args.connections.now.slots.items c.args.slot) c.transfer.result Over (socket_of g.T.Stream.left g.T.Stream.written c.in-Some.side) (socket_of g.T.Stream.left g.T.Stream.written c.transfer.new.side) c.in-Over.is c.transfer.ensures.visit))

pub returns-in-Over-clause-stopped : goal.returns-in-Over-clause-stopped
returns-in-Over-clause-stopped g c =
    on_err c.leave-in-Over.result (but_none c.args.connections.now.slots.items (sockets_of g.T.Stream.left g.T.Stream.written c.args.self.now.sides.items) (sockets_of g.T.Stream.left g.T.Stream.written c.leave-in-Over.new.self.sides.items) (map event_of c.args.told.now.items) (map event_of c.args.told.now.items)
    (visit_over g.T.Stream.left g.T.Stream.written c.args.connections.now.slots.items c.args.self.now.sides.items c.leave-in-Over.new.self.sides.items c.args.slot c.in-Some.side (map event_of c.args.told.now.items) c.in-Some.ensures.some (c.leave-in-Over.ensures ∙ c.transfer.ensures.sides ∙ c.in-Some.ensures.new) (visit_as c.args.slot (slice_get c.args.connections.now.slots.items c.args.slot) c.transfer.result Over (socket_of g.T.Stream.left g.T.Stream.written c.in-Some.side) (socket_of g.T.Stream.left g.T.Stream.written c.transfer.new.side) c.in-Over.is c.transfer.ensures.visit)))
