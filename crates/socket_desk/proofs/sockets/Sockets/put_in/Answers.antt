use Rattle.socket_desk.proofs.TrafficFacts.{set_in}
use Rattle.socket_desk.proofs.sockets.Sockets.put_in.Goals as goal

pub returns : goal.returns
returns g c =
    set_in g.T.Stream.left g.T.Stream.written c.args.self.now.sides.items c.put_back.new.self.sides.items c.list.new.self.sides.items c.args.slot c.args.side c.put_back.ensures c.list.ensures
