use Rattle.std.proofs.Common.{refl}
use Rattle.connections.proofs.MemoryFacts.{stays_gave, stays_on, stays_same}
use Rattle.connections.proofs.slots.Connections.give_back.Goals as goal

pub returns-in-Some-clause-within : goal.returns-in-Some-clause-within
returns-in-Some-clause-within c =
    stays_on c.args.self.now c.count_reply.new.self (record { slots = c.count_reply.new.self.slots; shares = c.give.new.self; replies = c.count_reply.new.self.replies })
    (stays_same c.args.self.now c.count_reply.new.self c.count_reply.ensures.slots c.count_reply.ensures.shares)
    (stays_gave c.count_reply.new.self (record { slots = c.count_reply.new.self.slots; shares = c.give.new.self; replies = c.count_reply.new.self.replies }) c.args.slot c.in-Some.needed c.give.result refl c.give.ensures.given c.give.ensures.kept
    (λ h. c.in-Some.ensures))
