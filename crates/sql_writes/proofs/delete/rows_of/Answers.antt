use Rattle.std.proofs.Common.{◌∙◌, arith}
use Rattle.sql_tables.specs.Changes.{going}
use Rattle.sql_tables.specs.Stored.{of_table}
use Rattle.sql_rows.proofs.ChangeFacts.{changes_then, refused}
use Rattle.sql_writes.proofs.FindFacts.{spared}
use Rattle.sql_writes.proofs.TakeFacts.{stopped_first, takes_then, takes_told}
use Rattle.sql_writes.proofs.delete.rows_of.Goals as goal

pub returns-in_err-has_rows_of-clause-changes : goal.returns-in_err-has_rows_of-clause-changes
returns-in_err-has_rows_of-clause-changes g c = refused _ _ _ _ (λ stored. stored) _ c.from_residual.ensures.0 c.in_err-has_rows_of.ensures.asks.changes

pub returns-clause-changes : goal.returns-clause-changes
returns-clause-changes g c =
    let t = g.T.Table in
    spared t.index t.table t.rows t.with_rows t.stands _ _ (g.K.Key.has c.args.key.now) _ _ c.in_ok-has_rows_of.ensures.asks.changes (λ clean known. c.in_ok-has_rows_of.ensures.found clean known ∙ c.if-branch.false)

pub returns-then-branch-clause-changes : goal.returns-then-branch-clause-changes
returns-then-branch-clause-changes g c =
    let t = g.T.Table in
    changes_then _ _ _ _ _ (λ stored. stored) (going (of_table t.rows t.with_rows) (g.K.Key.has c.args.key.now)) c.in_ok-has_rows_of.ensures.asks.changes c.any_of.ensures.changes

pub returns-in_err-has_rows_of-clause-takes : goal.returns-in_err-has_rows_of-clause-takes
returns-in_err-has_rows_of-clause-takes g c =
    stopped_first _ _ c.in_err-has_rows_of.field-0.0 _ 0 0 (λ stored. Unit {0}) (λ stored. Unit {0}) c.from_residual.ensures.1 (λ stored u. tt) c.in_err-has_rows_of.ensures.asks.takes (omega arith)

pub returns-clause-takes : goal.returns-clause-takes
returns-clause-takes g c = takes_told _ _ _ _ 0 (λ stored. Unit {0}) c.in_ok-has_rows_of.ensures.asks.takes

pub returns-then-branch-clause-takes : goal.returns-then-branch-clause-takes
returns-then-branch-clause-takes g c =
    takes_then _ _ _ _ _ (λ stored. stored) 0 0 (λ stored. Unit {0}) (λ stored. Unit {0}) (λ stored u. u) c.in_ok-has_rows_of.ensures.asks.changes c.in_ok-has_rows_of.ensures.asks.takes c.any_of.ensures.changes.survives c.any_of.ensures.takes
