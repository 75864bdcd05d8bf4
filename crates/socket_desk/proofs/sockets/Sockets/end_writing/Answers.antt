use Rattle.std.proofs.Common.{inr, refl}
use Rattle.socket_desk.specs.Traffic.{sockets_of}
use Rattle.socket_desk.proofs.TrafficFacts.{back_in, last_written}
use Rattle.socket_desk.proofs.sockets.Sockets.end_writing.Goals as goal

pub returns-in-Some : goal.returns-in-Some
returns-in-Some g c shown =
    last_written g.T.Stream.left g.T.Stream.written shown c.args.self.now.sides.items (sockets_of g.T.Stream.left g.T.Stream.written c.put_back.new.self.sides.items) c.args.slot c.in-Some.side _ c.in-Some.ensures.some (back_in g.T.Stream.left g.T.Stream.written c.args.self.now.sides.items c.take_out.new.self.sides.items c.put_back.new.self.sides.items c.args.slot _ c.in-Some.ensures.new c.put_back.ensures)
    (inr ((refl, refl), c.end.ensures.reads, c.end.ensures.writes))
