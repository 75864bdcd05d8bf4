use Rattle.std.proofs.Common.{◌≡◌, ◌+◌, ◌∙◌, ap, arith, get_or, rules, sym}
use Rattle.connections.specs.Items.{Grows}
use Rattle.connections.specs.Shares.{Shared}
use Rattle.connections.specs.declared.connection.Phase.TheVariants.{Open}
use Rattle.connections.proofs.MemoryFacts.{fit_in, stays_fit, stays_left, stays_same}
use Rattle.connections.proofs.SlotFacts.{back_by, moves_by, not_so, was_ok, within}
use Rattle.connections.proofs.slots.Connections.take_in.Goals as goal

pub returns-then-ne-clause-told : goal.returns-then-ne-clause-told
returns-then-ne-clause-told c = (
  not_so c.args.self.now.slots.items c.args.slot c.in-Some.connection (λ before. before.phase ≡ Open) c.in-Some.ensures.some (search rules),
  back_by c.args.self.now.slots.items c.take.new.self.slots.items c.put.new.self.slots.items c.args.slot c.in-Some.connection c.in-Some.ensures.some c.in-Some.ensures.new c.put.ensures.into,
)

pub put-requires-2 : goal.put-requires-2
put-requires-2 c = within c.args.self.now.slots.items c.take.new.self.slots.items c.args.slot c.in-Some.connection c.in-Some.ensures.some c.in-Some.ensures.new

pub returns-clause-told : goal.returns-clause-told
returns-clause-told c =
    moves_by c.args.self.now.slots.items c.take.new.self.slots.items c.put-2.new.self.slots.items c.args.slot c.in-Some.connection c.take_in.new.self (Grows c.args.text.now)
    c.in-Some.ensures.some c.in-Some.ensures.new c.put-2.ensures.into (was_ok c.take_in.result c.take_in.ensures (sym c.is_err.ensures.value ∙ c.if-is_err.false))

pub returns-then-ne-clause-within : goal.returns-then-ne-clause-within
returns-then-ne-clause-within c =
    stays_same c.args.self.now c.put.new.self
    (back_by c.args.self.now.slots.items c.take.new.self.slots.items c.put.new.self.slots.items c.args.slot c.in-Some.connection c.in-Some.ensures.some c.in-Some.ensures.new c.put.ensures.into)
    (c.put.ensures.shares ∙ c.take.ensures.shares)

pub returns-then-not-fits-clause-within : goal.returns-then-not-fits-clause-within
returns-then-not-fits-clause-within c = stays_left c.args.self.now c.take.new.self c.args.slot c.in-Some.ensures.new c.take.ensures.shares

pub returns-then-is_err-clause-within : goal.returns-then-is_err-clause-within
returns-then-is_err-clause-within c = stays_left c.args.self.now c.take.new.self c.args.slot c.in-Some.ensures.new c.take.ensures.shares

pub returns-clause-within : goal.returns-clause-within
returns-clause-within c =
    let grows : Grows c.args.text.now c.in-Some.connection c.take_in.new.self =
    was_ok c.take_in.result c.take_in.ensures (sym c.is_err.ensures.value ∙ c.if-is_err.false) in
    let shares : get_or c.take.new.self.shares.given c.args.slot 0 ≡ get_or c.args.self.now.shares.given c.args.slot 0 =
    ap (λ (s : Shared). get_or s.given c.args.slot 0) c.take.ensures.shares in
    stays_fit c.args.self.now c.take.new.self c.put-2.new.self c.args.slot c.in-Some.connection c.take_in.new.self
    c.in-Some.ensures.some c.in-Some.ensures.new c.put-2.ensures.into c.take.ensures.shares c.put-2.ensures.shares
    (fit_in c.in-Some.connection c.take_in.new.self c.args.text.now (16384 + get_or c.args.self.now.shares.given c.args.slot 0) grows (omega (arith, shares, c.len.ensures, c.fits.ensures c.if-not-fits.false)))
