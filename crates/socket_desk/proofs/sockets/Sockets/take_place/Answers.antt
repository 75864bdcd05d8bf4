use Rattle.std.proofs.Common.{arith, map}
use Rattle.connections.specs.Items.{came, event_of}
use Rattle.socket_desk.specs.Traffic.{sockets_of}
use Rattle.socket_desk.proofs.TrafficFacts.{but_on, come_in, on_err, then_err, then_ok, told_not, told_on, told_one}
use Rattle.socket_desk.proofs.sockets.Sockets.take_place.Goals as goal

pub returns-clause-told : goal.returns-clause-told
returns-clause-told g c shown =
    then_ok c.tell.result (λ e. told_on shown (sockets_of g.T.Stream.left g.T.Stream.written c.args.self.now.sides.items) (sockets_of g.T.Stream.left g.T.Stream.written c.end.new.self.sides.items) (sockets_of g.T.Stream.left g.T.Stream.written c.put_back.new.self.sides.items) (map event_of c.args.told.now.items) (map event_of c.end.new.told.items) (map event_of c.tell.new.told.items) (c.in_ok-end.ensures.told shown) (told_one shown (sockets_of g.T.Stream.left g.T.Stream.written c.end.new.self.sides.items) (sockets_of g.T.Stream.left g.T.Stream.written c.put_back.new.self.sides.items) (map event_of c.end.new.told.items) (map event_of c.tell.new.told.items) (came c.args.slot)
    (come_in g.T.Stream.left g.T.Stream.written shown c.end.new.self.sides.items c.put_back.new.self.sides.items c.args.slot c.new.result (c.in_ok-end.ensures.free (omega (arith, c.if-slot-len.false, c.len.ensures, c.in_ok-end.ensures.slots))) c.put_back.ensures c.new.ensures.«open» c.new.ensures.ahead) e)) c.tell.ensures.told

pub returns-clause-stopped : goal.returns-clause-stopped
returns-clause-stopped g c shown =
    then_err c.tell.result (λ e. but_on shown (sockets_of g.T.Stream.left g.T.Stream.written c.args.self.now.sides.items) (sockets_of g.T.Stream.left g.T.Stream.written c.end.new.self.sides.items) (sockets_of g.T.Stream.left g.T.Stream.written c.put_back.new.self.sides.items) (map event_of c.args.told.now.items) (map event_of c.end.new.told.items) (map event_of c.tell.new.told.items) (c.in_ok-end.ensures.told shown) (told_not shown (sockets_of g.T.Stream.left g.T.Stream.written c.end.new.self.sides.items) (sockets_of g.T.Stream.left g.T.Stream.written c.put_back.new.self.sides.items) (map event_of c.end.new.told.items) (map event_of c.tell.new.told.items) (came c.args.slot)
    (come_in g.T.Stream.left g.T.Stream.written shown c.end.new.self.sides.items c.put_back.new.self.sides.items c.args.slot c.new.result (c.in_ok-end.ensures.free (omega (arith, c.if-slot-len.false, c.len.ensures, c.in_ok-end.ensures.slots))) c.put_back.ensures c.new.ensures.«open» c.new.ensures.ahead) e)) c.tell.ensures.same

pub returns-in_err-end-clause-stopped : goal.returns-in_err-end-clause-stopped
returns-in_err-end-clause-stopped g c shown = on_err c.from_residual.result (c.in_err-end.ensures.stopped shown)
