use Rattle.std.proofs.Common.{◌∙◌, refl, sym}
use Rattle.bureau.proofs.KeptFacts.{idle}
use Rattle.bureau.specs.Kept.{IsKeptRun}
use Rattle.connections.proofs.MemoryFacts.{stays_fewer, stays_left}
use Rattle.connections.proofs.SideFacts.{leaves_all_settled, leaves_so_far, none_so_far, stays_all_settled, stays_so_far}
use Rattle.connections.proofs.SlotFacts.{within}
use Rattle.connections.proofs.serving.go_on.Goals as goal

pub returns-then-stays-clause-so_far : goal.returns-then-stays-clause-so_far
returns-then-stays-clause-so_far g c =
    stays_so_far g.D.Desk.tables_view c.args.desk.now c.take_turn-turn.new.desk c.args.slot c.in-Some.connection c.take_turn-turn.new.self c.args.connections.now.slots.items c.take.new.self.slots.items c.take_turn-turn.result
    c.in-Some.ensures.some c.in-Some.ensures.new c.take_turn-turn.ensures.turn c.put.new.self.slots.items (sym c.stays.ensures ∙ c.if-stays.true) c.put.ensures.into

pub returns-then-stays-clause-settled : goal.returns-then-stays-clause-settled
returns-then-stays-clause-settled g c =
    stays_all_settled g.D.Desk.tables_view c.args.desk.now c.take_turn-turn.new.desk c.args.slot c.in-Some.connection c.take_turn-turn.new.self c.args.connections.now.slots.items c.take.new.self.slots.items c.take_turn-turn.result
    c.in-Some.ensures.some c.in-Some.ensures.new c.take_turn-turn.ensures.turn c.put.new.self.slots.items (sym c.stays.ensures ∙ c.if-stays.true) c.put.ensures.into

pub returns-then-stays-clause-within : goal.returns-then-stays-clause-within
returns-then-stays-clause-within g c =
    stays_fewer c.args.connections.now c.take.new.self c.put.new.self c.args.slot c.in-Some.connection c.take_turn-turn.new.self
    c.in-Some.ensures.some c.in-Some.ensures.new c.put.ensures.into c.take.ensures.shares c.put.ensures.shares c.take_turn-turn.ensures.fewer

pub returns-else-stays-clause-so_far : goal.returns-else-stays-clause-so_far
returns-else-stays-clause-so_far g c =
    leaves_so_far g.D.Desk.tables_view c.args.desk.now c.take_turn-turn.new.desk c.args.slot c.in-Some.connection c.take_turn-turn.new.self c.args.connections.now.slots.items c.take.new.self.slots.items c.take_turn-turn.result
    c.in-Some.ensures.some c.in-Some.ensures.new c.take_turn-turn.ensures.turn (sym c.stays.ensures ∙ c.if-stays.false)

pub returns-else-stays-clause-settled : goal.returns-else-stays-clause-settled
returns-else-stays-clause-settled g c =
    leaves_all_settled g.D.Desk.tables_view c.args.desk.now c.take_turn-turn.new.desk c.args.slot c.in-Some.connection c.take_turn-turn.new.self c.args.connections.now.slots.items c.take.new.self.slots.items c.take_turn-turn.result
    c.in-Some.ensures.some c.in-Some.ensures.new c.take_turn-turn.ensures.turn

pub returns-else-stays-clause-within : goal.returns-else-stays-clause-within
returns-else-stays-clause-within g c = stays_left c.args.connections.now c.take.new.self c.args.slot c.in-Some.ensures.new c.take.ensures.shares

pub returns-in_default-clause-so_far : goal.returns-in_default-clause-so_far
returns-in_default-clause-so_far g c = record {
  told = λ ours clean this stand. none_so_far (IsKeptRun g.D.Desk.tables_view c.args.desk.now c.args.desk.now) this c.args.slot c.args.connections.now.slots.items
      c.take.new.self.slots.items (refl, idle g.D.Desk.tables_view c.args.desk.now this stand) c.in_default.ensures.none.1;
}

pub put-requires : goal.put-requires
put-requires g c =
    within c.args.connections.now.slots.items c.take.new.self.slots.items c.args.slot c.in-Some.connection c.in-Some.ensures.some c.in-Some.ensures.new
