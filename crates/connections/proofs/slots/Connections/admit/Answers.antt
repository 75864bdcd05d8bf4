use Rattle.std.proofs.Common.{arith, refl}
use Rattle.connections.proofs.MemoryFacts.{needs_more, stays_gave}
use Rattle.connections.proofs.slots.Connections.admit.Goals as goal

pub returns-clause-within : goal.returns-clause-within
returns-clause-within c =
    stays_gave c.args.self.now (record { slots = c.args.self.now.slots; shares = c.give.new.self; replies = c.args.self.now.replies }) c.args.slot c.args.share c.give.result refl c.give.ensures.given c.give.ensures.kept
    (λ h. needs_more c.args.self.now.slots.items c.args.self.now.shares.given c.args.slot c.args.share h (omega arith))
