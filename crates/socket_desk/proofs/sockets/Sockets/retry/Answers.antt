use Rattle.socket_desk.specs.Traffic.{socket_of, sockets_of}
use Rattle.socket_desk.proofs.TrafficFacts.{again_in, same_in}
use Rattle.socket_desk.proofs.sockets.Sockets.retry.Goals as goal

pub returns : goal.returns
returns g c =
    same_in g.T.Stream.left g.T.Stream.written c.args.self.now.sides.items (sockets_of g.T.Stream.left g.T.Stream.written c.put_in.new.self.sides.items) c.args.slot c.in-Some.side c.in-Some.ensures.some (again_in g.T.Stream.left g.T.Stream.written c.args.self.now.sides.items c.take_out.new.self.sides.items (sockets_of g.T.Stream.left g.T.Stream.written c.put_in.new.self.sides.items) c.args.slot (socket_of g.T.Stream.left g.T.Stream.written c.in-Some.side) c.in-Some.ensures.new c.put_in.ensures)
