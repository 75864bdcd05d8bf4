use Rattle.std.proofs.Common.{ap, sym, subst, refl}
use Rattle.bureau.proofs.KeptFacts.{idle}
use Rattle.bureau.specs.Kept.{IsKeptRun}
use Rattle.connections.specs.Turns.{Turns}
use Rattle.connections.specs.declared.connection.Connection.{Connection}
use Rattle.connections.proofs.SettledFacts.{rests}
use Rattle.connections.proofs.connection.Connection.look_on.Goals as goal

pub returns-then-is_short-clause-turn : goal.returns-then-is_short-clause-turn
returns-then-is_short-clause-turn g c =
    let old = c.args.self.now in
    let new : Connection = record { held = c.is_short.new.self; out = old.out; note = old.note; ordinal = old.ordinal; phase = old.phase } in
    let runs = IsKeptRun g.D.Desk.tables_view c.args.desk.now c.args.desk.now in
    record {
      told = λ ours clean this stand.
          subst (λ turn. Turns runs this turn old new) (sym c.rests.ensures)
          (rests runs this old new c.requires (ap (λ l. record { held = l; out = old.out; note = old.note; ordinal = old.ordinal; phase = old.phase }) c.is_short.ensures.same)
          (c.is_short.ensures.short c.if-is_short.true) (refl, idle g.D.Desk.tables_view c.args.desk.now this stand));
    }
