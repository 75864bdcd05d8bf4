use Rattle.std.proofs.Common.{◌∙◌}
use Rattle.socket_desk.specs.Traffic.{socket_of, sockets_of}
use Rattle.socket_desk.proofs.TrafficFacts.{back_in, last_none, last_written, same_in}
use Rattle.socket_desk.proofs.sockets.Sockets.show_one.Goals as goal

pub returns-then-not-takes_more : goal.returns-then-not-takes_more
returns-then-not-takes_more g c =
    last_none c.args.connections.now.slots.items (sockets_of g.T.Stream.left g.T.Stream.written c.args.self.now.sides.items) (sockets_of g.T.Stream.left g.T.Stream.written c.put_back.new.self.sides.items) (same_in g.T.Stream.left g.T.Stream.written c.args.self.now.sides.items (sockets_of g.T.Stream.left g.T.Stream.written c.put_back.new.self.sides.items) c.args.slot c.in-Some.side c.in-Some.ensures.some (back_in g.T.Stream.left g.T.Stream.written c.args.self.now.sides.items c.take_out.new.self.sides.items c.put_back.new.self.sides.items c.args.slot _ c.in-Some.ensures.new c.put_back.ensures))

pub returns : goal.returns
returns g c =
    last_written g.T.Stream.left g.T.Stream.written c.args.connections.now.slots.items c.args.self.now.sides.items (sockets_of g.T.Stream.left g.T.Stream.written c.put_back-2.new.self.sides.items) c.args.slot c.in-Some.side
    (socket_of g.T.Stream.left g.T.Stream.written c.write_last.new.side) c.in-Some.ensures.some
    (back_in g.T.Stream.left g.T.Stream.written c.args.self.now.sides.items c.write_last.new.self.sides.items c.put_back-2.new.self.sides.items c.args.slot c.write_last.new.side (c.write_last.ensures.sides ∙ c.in-Some.ensures.new) c.put_back-2.ensures)
    c.write_last.ensures.last
