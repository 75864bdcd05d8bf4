use Rattle.std.proofs.Common.{inl}
use Rattle.socket_desk.specs.Traffic.{sockets_of}
use Rattle.socket_desk.proofs.TrafficFacts.{back_in, noted, turned}
use Rattle.socket_desk.proofs.sockets.Sockets.let_read.Goals as goal

pub returns-in-Some : goal.returns-in-Some
returns-in-Some g c =
    inl (turned g.T.Stream.left g.T.Stream.written c.args.self.now.sides.items (sockets_of g.T.Stream.left g.T.Stream.written c.put_back.new.self.sides.items) c.args.slot c.in-Some.side _ _ c.in-Some.ensures.some (back_in g.T.Stream.left g.T.Stream.written c.args.self.now.sides.items c.take_out.new.self.sides.items c.put_back.new.self.sides.items c.args.slot _ c.in-Some.ensures.new c.put_back.ensures) (noted g.T.Stream.left g.T.Stream.written c.in-Some.side c.let_read.new.self c.let_read.ensures.stream c.let_read.ensures.closing c.let_read.ensures.noted))
