use Rattle.sql_tables.specs.Changes.{going}
use Rattle.sql_tables.specs.Stored.{is_of, sup_table, sysmod_table}
use Rattle.sql_rows.proofs.ChangeFacts.{changes_then}
use Rattle.sql_writes.proofs.TakeFacts.{takes_then}
use Rattle.sql_writes.proofs.delete.record.Goals as goal

pub returns-clause-changes : goal.returns-clause-changes
returns-clause-changes g c =
    changes_then _ _ _ tt _ (going sysmod_table (is_of c.args.id.now)) (going sup_table (is_of c.args.id.now)) c.in_ok-rows_of.ensures.changes c.rows_of-2.ensures.changes

pub returns-clause-takes : goal.returns-clause-takes
returns-clause-takes g c =
    takes_then _ _ _ tt _ (going sysmod_table (is_of c.args.id.now)) 0 0 (λ stored. Unit {0}) (λ stored. Unit {0}) (λ stored u. tt) c.in_ok-rows_of.ensures.changes c.in_ok-rows_of.ensures.takes
    c.rows_of-2.ensures.changes.survives c.rows_of-2.ensures.takes
