use Rattle.std.proofs.Common.{subst, OnErr, OnOk}
use Rattle.socket_desk.specs.Traffic.{Tells, TellsBut}
use Rattle.socket_desk.proofs.sockets.Sockets.sweep_one.Goals as goal

pub returns-clause-told : goal.returns-clause-told
returns-clause-told g c =
    subst (λ s. OnOk c.end.result (Tells g.T.Stream.left g.T.Stream.written c.args.connections.now.slots.items s c.args.told.now.items c.end.new.self.sides.items c.end.new.told.items)) c.tell_late.ensures (c.end.ensures.told c.args.connections.now.slots.items)

pub returns-clause-stopped : goal.returns-clause-stopped
returns-clause-stopped g c =
    subst (λ s. OnErr c.end.result (TellsBut g.T.Stream.left g.T.Stream.written c.args.connections.now.slots.items s c.args.told.now.items c.end.new.self.sides.items c.end.new.told.items)) c.tell_late.ensures (c.end.ensures.stopped c.args.connections.now.slots.items)
