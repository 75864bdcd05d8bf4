use Rattle.std.proofs.Common.{ap, arith}
use Rattle.std.specs.Prelude.{◌∷◌, []}
use Rattle.sql_tables.specs.Changes.{coming, going, is_under}
use Rattle.sql_tables.specs.Rows.{hold_row}
use Rattle.sql_tables.specs.Stored.{hold_table}
use Rattle.sql_rows.proofs.ChangeFacts.{both, refused}
use Rattle.sql_rows.proofs.StoredFacts.{replaced_then}
use Rattle.sql_rows.proofs.AbsentFacts.{gone_now}
use Rattle.sql_writes.proofs.TakeFacts.{stopped_first, takes_then}
use Rattle.sql_writes.proofs.publication.put_hold.Goals as goal

pub returns-in_err-hold-clause-changes : goal.returns-in_err-hold-clause-changes
returns-in_err-hold-clause-changes g c = refused _ _ _ _ (going hold_table (is_under c.args.hold.now.key)) _ c.from_residual.ensures.0 c.in_err-hold.ensures.changes

pub returns-clause-changes : goal.returns-clause-changes
returns-clause-changes g c =
    both _ _ _ tt _ (going hold_table (is_under c.args.hold.now.key)) (coming hold_table (hold_row c.args.hold.now ∷ [])) _
    (λ stored. ap (λ rows. record stored { holds = rows }) (replaced_then (is_under c.args.hold.now.key) (hold_row c.args.hold.now ∷ []) stored.holds))
    c.in_ok-hold.ensures.changes c.hold-2.ensures.changes

pub returns-in_err-hold-clause-takes : goal.returns-in_err-hold-clause-takes
returns-in_err-hold-clause-takes g c is short =
    stopped_first _ _ c.in_err-hold.field-0.0 _ 0 1 (λ stored. Unit {0}) (λ stored. Unit {0}) c.from_residual.ensures.1 (λ stored u. tt) c.in_err-hold.ensures.takes (omega arith)

pub returns-clause-takes : goal.returns-clause-takes
returns-clause-takes g c is short =
    takes_then _ _ _ tt _ (going hold_table (is_under c.args.hold.now.key)) 0 1 (λ stored. Unit {0}) _ (λ stored u. gone_now (is_under c.args.hold.now.key) (is_under c.args.hold.now.key) (λ row h. h) stored.holds) c.in_ok-hold.ensures.changes c.in_ok-hold.ensures.takes c.hold-2.ensures.changes.survives (c.hold-2.ensures.takes is short)
