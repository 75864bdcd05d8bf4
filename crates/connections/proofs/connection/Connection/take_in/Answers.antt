use Rattle.connections.proofs.IntakeFacts.{grown}
use Rattle.connections.proofs.connection.Connection.take_in.Goals as goal

pub returns : goal.returns
returns c = grown c.take_in.result c.args.self.now c.args.text.now c.take_in.new.self c.requires c.take_in.ensures
