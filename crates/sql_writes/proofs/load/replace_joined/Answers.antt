use Rattle.std.proofs.Common.{[], ◌∷◌, arith}
use Rattle.sql_tables.specs.Changes.{coming, going, instead}
use Rattle.sql_tables.specs.Stored.{of_table}
use Rattle.sql_rows.proofs.ChangeFacts.{both}
use Rattle.sql_rows.proofs.TableFacts.{in_place}
use Rattle.sql_writes.proofs.LeaveFacts.{none_left}
use Rattle.sql_writes.proofs.TakeFacts.{stopped_first, takes_then}
use Rattle.sql_writes.proofs.load.replace_joined.Goals as goal

pub returns-clause-changes : goal.returns-clause-changes
returns-clause-changes g c =
    let t = g.T.Table in
    let has = g.K.Key.has c.args.key.now in
    let news = g.T.Joined.row_with c.args.key.now c.args.list.now ∷ [] in
    let table = of_table t.rows t.with_rows in
    both _ _ _ tt _ (going table has) (coming table news) (instead table has news) (in_place t.index t.table t.rows t.with_rows t.stands has news) c.in_ok-leave.ensures.changes c.joined.ensures.changes

pub returns-in_err-leave-clause-takes : goal.returns-in_err-leave-clause-takes
returns-in_err-leave-clause-takes g c short =
    stopped_first _ _ c.in_err-leave.field-0.0 _ 0 1 (λ stored. Unit {0}) (λ stored. Unit {0}) c.from_residual.ensures.1 (λ stored u. tt) c.in_err-leave.ensures.takes (omega arith)

pub returns-clause-takes : goal.returns-clause-takes
returns-clause-takes g c short =
    let t = g.T.Table in
    let has = g.K.Key.has c.args.key.now in
    takes_then _ _ _ tt _ (going (of_table t.rows t.with_rows) has) 0 1 (λ stored. Unit {0}) _ (λ stored u. none_left t.index t.table t.rows t.with_rows t.stands has stored)
    c.in_ok-leave.ensures.changes c.in_ok-leave.ensures.takes c.joined.ensures.changes.survives (c.joined.ensures.takes short)
