use Rattle.std.proofs.Common.{◌≡◌, rules}
use Rattle.connections.specs.Items.{IsEnded}
use Rattle.connections.specs.declared.connection.Phase.TheVariants.{Open}
use Rattle.connections.proofs.SlotFacts.{back_by, moves_by, not_so, within}
use Rattle.connections.proofs.slots.Connections.end.Goals as goal

pub returns-then-ne-clause-told : goal.returns-then-ne-clause-told
returns-then-ne-clause-told c = (
  not_so c.args.self.now.slots.items c.args.slot c.in-Some.connection (λ before. before.phase ≡ Open) c.in-Some.ensures.some (search rules),
  back_by c.args.self.now.slots.items c.take.new.self.slots.items c.put.new.self.slots.items c.args.slot c.in-Some.connection c.in-Some.ensures.some c.in-Some.ensures.new c.put.ensures.into,
)

pub put-requires-2 : goal.put-requires-2
put-requires-2 c = within c.args.self.now.slots.items c.take.new.self.slots.items c.args.slot c.in-Some.connection c.in-Some.ensures.some c.in-Some.ensures.new

pub returns-clause-told : goal.returns-clause-told
returns-clause-told c =
    moves_by c.args.self.now.slots.items c.take.new.self.slots.items c.put-2.new.self.slots.items c.args.slot c.in-Some.connection c.end.new.self IsEnded
    c.in-Some.ensures.some c.in-Some.ensures.new c.put-2.ensures.into c.end.ensures
