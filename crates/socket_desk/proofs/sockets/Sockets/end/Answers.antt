use Rattle.std.proofs.Common.{◌∙◌, map}
use Rattle.connections.specs.Items.{event_of, late}
use Rattle.socket_desk.specs.Traffic.{sockets_of}
use Rattle.socket_desk.proofs.TrafficFacts.{but_none, ended_late, on_err, on_ok, out_free, told_not, told_one, visit_over}
use Rattle.socket_desk.proofs.sockets.Sockets.end.Goals as goal

pub returns-then-side-clause-told : goal.returns-then-side-clause-told
returns-then-side-clause-told g c shown =
    on_ok c.leave.result (visit_over g.T.Stream.left g.T.Stream.written shown c.args.self.now.sides.items c.leave.new.self.sides.items c.args.slot c.in-Some.side (map event_of c.args.told.now.items) c.in-Some.ensures.some (c.leave.ensures ∙ c.in-Some.ensures.new) c.if-side.true)

pub returns-then-side-clause-stopped : goal.returns-then-side-clause-stopped
returns-then-side-clause-stopped g c shown =
    on_err c.leave.result (but_none shown (sockets_of g.T.Stream.left g.T.Stream.written c.args.self.now.sides.items) (sockets_of g.T.Stream.left g.T.Stream.written c.leave.new.self.sides.items) (map event_of c.args.told.now.items) (map event_of c.args.told.now.items)
    (visit_over g.T.Stream.left g.T.Stream.written shown c.args.self.now.sides.items c.leave.new.self.sides.items c.args.slot c.in-Some.side (map event_of c.args.told.now.items) c.in-Some.ensures.some (c.leave.ensures ∙ c.in-Some.ensures.new) c.if-side.true))

pub returns-then-side-clause-free : goal.returns-then-side-clause-free
returns-then-side-clause-free g c within =
    out_free g.T.Stream.left g.T.Stream.written c.args.self.now.sides.items c.leave.new.self.sides.items c.args.slot c.in-Some.side c.in-Some.ensures.some (c.leave.ensures ∙ c.in-Some.ensures.new)

pub returns-in_err-tell-clause-stopped : goal.returns-in_err-tell-clause-stopped
returns-in_err-tell-clause-stopped g c shown =
    on_err c.from_residual.result (told_not shown (sockets_of g.T.Stream.left g.T.Stream.written c.args.self.now.sides.items) (sockets_of g.T.Stream.left g.T.Stream.written c.take_out.new.self.sides.items) (map event_of c.args.told.now.items) (map event_of c.tell.new.told.items) (late c.args.slot)
    (ended_late g.T.Stream.left g.T.Stream.written shown c.args.self.now.sides.items c.take_out.new.self.sides.items c.args.slot c.in-Some.side c.in-Some.ensures.some (c.in-Some.ensures.new) c.if-side.false) c.in_err-tell.ensures.same)

pub returns-in_err-tell-clause-free : goal.returns-in_err-tell-clause-free
returns-in_err-tell-clause-free g c within =
    out_free g.T.Stream.left g.T.Stream.written c.args.self.now.sides.items c.take_out.new.self.sides.items c.args.slot c.in-Some.side c.in-Some.ensures.some c.in-Some.ensures.new

pub returns-clause-told : goal.returns-clause-told
returns-clause-told g c shown =
    on_ok c.leave-2.result (told_one shown (sockets_of g.T.Stream.left g.T.Stream.written c.args.self.now.sides.items) (sockets_of g.T.Stream.left g.T.Stream.written c.leave-2.new.self.sides.items) (map event_of c.args.told.now.items) (map event_of c.tell.new.told.items) (late c.args.slot)
    (ended_late g.T.Stream.left g.T.Stream.written shown c.args.self.now.sides.items c.leave-2.new.self.sides.items c.args.slot c.in-Some.side c.in-Some.ensures.some (c.leave-2.ensures ∙ c.in-Some.ensures.new) c.if-side.false) c.in_ok-tell.ensures.told)

pub returns-clause-stopped : goal.returns-clause-stopped
returns-clause-stopped g c shown =
    on_err c.leave-2.result (but_none shown (sockets_of g.T.Stream.left g.T.Stream.written c.args.self.now.sides.items) (sockets_of g.T.Stream.left g.T.Stream.written c.leave-2.new.self.sides.items) (map event_of c.args.told.now.items) (map event_of c.tell.new.told.items)
    (told_one shown (sockets_of g.T.Stream.left g.T.Stream.written c.args.self.now.sides.items) (sockets_of g.T.Stream.left g.T.Stream.written c.leave-2.new.self.sides.items) (map event_of c.args.told.now.items) (map event_of c.tell.new.told.items) (late c.args.slot)
    (ended_late g.T.Stream.left g.T.Stream.written shown c.args.self.now.sides.items c.leave-2.new.self.sides.items c.args.slot c.in-Some.side c.in-Some.ensures.some (c.leave-2.ensures ∙ c.in-Some.ensures.new) c.if-side.false) c.in_ok-tell.ensures.told))

pub returns-clause-free : goal.returns-clause-free
returns-clause-free g c within =
    out_free g.T.Stream.left g.T.Stream.written c.args.self.now.sides.items c.leave-2.new.self.sides.items c.args.slot c.in-Some.side c.in-Some.ensures.some (c.leave-2.ensures ∙ c.in-Some.ensures.new)
