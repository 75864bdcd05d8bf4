use Rattle.std.proofs.Common.{Ok, refl}
use Rattle.sql_tables.specs.Changes.{going}
use Rattle.sql_tables.specs.Stored.{change_table, head_table, is_of, received_table, row_table}
use Rattle.sql_rows.proofs.ChangeFacts.{both, changes_then}
use Rattle.sql_writes.proofs.callers.leave_nothing.Goals as goal

pub returns-clause-changes : goal.returns-clause-changes
returns-clause-changes g c =
    let name = c.args.name.now in
    let unchanged = going change_table (is_of name) in
    let unheaded = going head_table (is_of name) in
    let emptied = going row_table (is_of name) in
    both _ _ _ tt _ (λ stored. emptied (unheaded (unchanged stored))) (going received_table (is_of name)) _ (λ stored. refl)
    (changes_then _ _ _ tt (Ok tt) (λ stored. unheaded (unchanged stored)) emptied
    (changes_then _ _ _ tt (Ok tt) unchanged unheaded c.in_ok-rows_of.ensures.changes c.in_ok-any_of.ensures.changes) c.in_ok-any_of-2.ensures.changes)
    c.rows_of-2.ensures.changes
