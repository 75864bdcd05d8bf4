use Rattle.std.proofs.Common.{arith}
use Rattle.connections.proofs.MemoryFacts.{reads_room}
use Rattle.connections.proofs.slots.Connections.room.Goals as goal

pub returns-clause-fits : goal.returns-clause-fits
returns-clause-fits c =
    reads_room c.saturating_sub-2.result c.in-Some.held c.admit.new.self.shares.given c.args.slot c.args.self.now.slots.items c.admit.new.self.slots.items c.admit.ensures.slots c.in-Some.ensures
    (λ some. omega (arith, c.admit.ensures.has c.if-not-admit.false))
