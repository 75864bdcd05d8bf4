use Rattle.socket_desk.proofs.sockets.Sockets.accept_one.Goals as goal

pub returns-in-Ok-clause-told : goal.returns-in-Ok-clause-told
returns-in-Ok-clause-told g c = c.take_in.ensures.told c.args.connections.now.slots.items

pub returns-in-Ok-clause-stopped : goal.returns-in-Ok-clause-stopped
returns-in-Ok-clause-stopped g c = c.take_in.ensures.stopped c.args.connections.now.slots.items
