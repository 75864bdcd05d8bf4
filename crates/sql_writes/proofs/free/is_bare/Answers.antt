use Rattle.std.proofs.Common.{◌≡◌, [], subst, sym, ◌∙◌}
use Rattle.std.proofs.lemmas.Bool.{not-true}
use Rattle.sqlite.specs.Effect.{Database}
use Rattle.sql_tables.specs.Ours.{held_by}
use Rattle.sql_tables.specs.Writing.{IsKnown}
use Rattle.sql_tables.proofs.StopFacts.{was_clean}
use Rattle.sql_writes.proofs.AskFacts.{asks_stopped, asks_then, asks_told}
use Rattle.sql_writes.proofs.free.is_bare.Goals as goal

pub returns-in_err-has_rows-clause-asks : goal.returns-in_err-has_rows-clause-asks
returns-in_err-has_rows-clause-asks g c = asks_stopped _ _ _ _ c.from_residual.ensures.0 c.from_residual.ensures.1 c.in_err-has_rows.ensures.asks

pub returns-then-branch-clause-asks : goal.returns-then-branch-clause-asks
returns-then-branch-clause-asks g c = asks_told _ _ _ _ c.in_ok-has_rows.ensures.asks

pub returns-in_err-has_rows-2-clause-asks : goal.returns-in_err-has_rows-2-clause-asks
returns-in_err-has_rows-2-clause-asks g c =
    asks_stopped _ _ _ _ c.from_residual-in_err-has_rows-2.ensures.0 c.from_residual-in_err-has_rows-2.ensures.1
    (asks_then _ _ _ _ _ c.in_ok-has_rows.ensures.asks c.in_err-has_rows-2.ensures.asks)

pub returns-then-branch-2-clause-asks : goal.returns-then-branch-2-clause-asks
returns-then-branch-2-clause-asks g c = asks_told _ _ _ _ (asks_then _ _ _ _ _ c.in_ok-has_rows.ensures.asks c.in_ok-has_rows-2.ensures.asks)

pub returns-in_err-conds-clause-asks : goal.returns-in_err-conds-clause-asks
returns-in_err-conds-clause-asks g c =
    asks_stopped _ _ _ _ c.from_residual-in_err-conds.ensures.0 c.from_residual-in_err-conds.ensures.1
    (asks_then _ _ _ _ _ c.in_ok-has_rows.ensures.asks (asks_then _ _ _ _ _ c.in_ok-has_rows-2.ensures.asks c.in_err-conds.ensures.asks))

pub returns-clause-asks : goal.returns-clause-asks
returns-clause-asks g c =
    asks_told _ _ _ _ (asks_then _ _ _ _ _ c.in_ok-has_rows.ensures.asks (asks_then _ _ _ _ _ c.in_ok-has_rows-2.ensures.asks c.in_ok-conds.ensures.asks))

pub returns-clause-bare : goal.returns-clause-bare
returns-clause-bare g c bare clean known =
    let clean_then = was_clean _ _ _ c.has_rows-3.ensures.asks.changes.survives clean in
    let one = c.in_ok-has_rows.ensures.found (was_clean _ _ _ c.has_rows-2.ensures.asks.changes.survives clean_then) known in
    let known_then = subst IsKnown (sym one.0) known in
    let two = c.in_ok-has_rows-2.ensures.found clean_then known_then in
    let three = c.in_ok-conds.ensures.found clean (subst IsKnown (sym two.0) known_then) in (
      one.1 c.if-branch.false,
      (
        subst (λ (database : Database). (held_by database).sups ≡ []) one.0 (two.1 c.if-branch-2.false),
        subst (λ (database : Database). (held_by database).conds ≡ []) (two.0 ∙ one.0) (three.1 (not-true _ bare)),
      ),
    )
