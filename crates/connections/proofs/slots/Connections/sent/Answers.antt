use Rattle.std.proofs.Common.{◌≤◌, arith, length, take}
use Rattle.std.proofs.lemmas.List.{length-take-le}
use Rattle.connections.specs.Items.{Sends}
use Rattle.connections.proofs.SlotFacts.{back_by, moves_by, not_so, within}
use Rattle.connections.proofs.slots.Connections.sent.Goals as goal

pub returns-then-len-count-clause-told : goal.returns-then-len-count-clause-told
returns-then-len-count-clause-told c = (
  not_so c.args.self.now.slots.items c.args.slot c.in-Some.connection (λ before. c.args.count ≤ length before.out) c.in-Some.ensures.some (λ low. omega arith),
  back_by c.args.self.now.slots.items c.take.new.self.slots.items c.put.new.self.slots.items c.args.slot c.in-Some.connection c.in-Some.ensures.some c.in-Some.ensures.new c.put.ensures.into,
)

pub put-requires-2 : goal.put-requires-2
put-requires-2 c = within c.args.self.now.slots.items c.take.new.self.slots.items c.args.slot c.in-Some.connection c.in-Some.ensures.some c.in-Some.ensures.new

pub returns-clause-told : goal.returns-clause-told
returns-clause-told c = (
  take c.args.count c.in-Some.connection.out,
  length-take-le c.args.count c.in-Some.connection.out (omega arith),
  moves_by c.args.self.now.slots.items c.take.new.self.slots.items c.put-2.new.self.slots.items c.args.slot c.in-Some.connection c.wrote.new.self (Sends (take c.args.count c.in-Some.connection.out))
      c.in-Some.ensures.some c.in-Some.ensures.new c.put-2.ensures.into c.wrote.ensures,
)
