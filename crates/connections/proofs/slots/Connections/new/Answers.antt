use Rattle.std.proofs.Common.{arith}
use Rattle.connections.proofs.MemoryFacts.{new_within}
use Rattle.connections.proofs.SettledFacts.{free_settled}
use Rattle.connections.proofs.SlotFacts.{all_free}
use Rattle.connections.proofs.slots.Connections.new.Goals as goal

pub returns-clause-free : goal.returns-clause-free
returns-clause-free c = all_free c.loop.slots.items c.loop.counter c.args.count c.loop.invariant (omega (arith, c.loop-test.false, c.loop.auto.counter-end))

pub returns-clause-settled : goal.returns-clause-settled
returns-clause-settled c = free_settled c.loop.slots.items c.loop.counter c.loop.invariant

pub returns-clause-within : goal.returns-clause-within
returns-clause-within c =
    new_within c.loop.slots.items c.in_ok-new.field-0 c.args.limit c.args.count (all_free c.loop.slots.items c.loop.counter c.args.count c.loop.invariant (omega (arith, c.loop-test.false, c.loop.auto.counter-end)))
    c.in_ok-new.ensures
