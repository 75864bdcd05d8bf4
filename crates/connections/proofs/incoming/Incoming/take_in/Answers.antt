use Rattle.connections.proofs.IntakeFacts.{sees_more}
use Rattle.connections.proofs.incoming.Incoming.take_in.Goals as goal

pub invariant_of-self : goal.invariant_of-self
invariant_of-self c = sees_more c.self.inside.bytes c.read_whole.new.intake c.self.inside.progress c.self.invariant c.read_whole.ensures.grown
