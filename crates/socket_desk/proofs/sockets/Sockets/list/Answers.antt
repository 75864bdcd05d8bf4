use Rattle.std.proofs.Common.{◌∙◌, ap}
use Rattle.socket_desk.specs.Traffic.{sockets_of}
use Rattle.socket_desk.proofs.TrafficFacts.{back_in, same_in}
use Rattle.socket_desk.proofs.sockets.Sockets.list.Goals as goal

pub returns-then-ne : goal.returns-then-ne
returns-then-ne g c =
    same_in g.T.Stream.left g.T.Stream.written c.args.self.now.sides.items (sockets_of g.T.Stream.left g.T.Stream.written c.put_back.new.self.sides.items) c.args.slot c.in-Some.side c.in-Some.ensures.some (back_in g.T.Stream.left g.T.Stream.written c.args.self.now.sides.items c.take_out.new.self.sides.items c.put_back.new.self.sides.items c.args.slot _ c.in-Some.ensures.new c.put_back.ensures)

pub returns : goal.returns
returns g c =
    ap (sockets_of g.T.Stream.left g.T.Stream.written) c.wait_among.ensures ∙ same_in g.T.Stream.left g.T.Stream.written c.args.self.now.sides.items (sockets_of g.T.Stream.left g.T.Stream.written c.put_back-2.new.self.sides.items) c.args.slot c.in-Some.side c.in-Some.ensures.some (back_in g.T.Stream.left g.T.Stream.written c.args.self.now.sides.items c.take_out.new.self.sides.items c.put_back-2.new.self.sides.items c.args.slot _ c.in-Some.ensures.new c.put_back-2.ensures)
