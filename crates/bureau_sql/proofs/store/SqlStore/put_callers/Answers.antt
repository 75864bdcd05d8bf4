use Rattle.std.proofs.Common.{◌∙◌, ap, refl}
use Rattle.std.specs.List.Sorted.{IsPermutation}
use Rattle.bureau_store.specs.SetCallers.{with_callers}
use Rattle.sql_tables.specs.Changes as rows
use Rattle.sql_tables.specs.Stored.{tables_of}
use Rattle.sql_tables.proofs.SetCallersFacts.{callers_set}
use Rattle.sql_tables.proofs.WholeFacts.{whole_with_callers}
use Rattle.bureau_sql.proofs.ChangedFacts.{open_changes}
use Rattle.bureau_sql.proofs.store.SqlStore.put_callers.Goals as goal

pub returns : goal.returns
returns g c =
    let looked = c.in_ok-check_open.ensures.open in
    let before = c.args.before.now in
    let callers = c.args.callers.now in
    open_changes g.S.Store (rows.with_callers c.args.names.now callers) (λ this. IsPermutation this.callers before) (with_callers callers)
    (λ stored whole. whole_with_callers c.args.names.now callers stored c.callers.ensures whole)
    (λ stored same. ap (λ names. tables_of (rows.with_callers names callers stored)) c.requires.names ∙ callers_set before (tables_of stored).callers c.requires.ascend same callers stored c.callers.ensures refl)
    c.self.inside.conn c.replace-made.new.conn c.self.inside.failures c.self.inside.unseen _ c.made.new.self
    (c.self.view_is ∙ looked.0) looked.1 c.made.ensures.rests c.replace-made.result c.made.result c.replace-made.ensures.committed c.made.ensures.told c.made.ensures.refusal
