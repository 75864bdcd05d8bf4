use Rattle.std.proofs.Common.{◌≡◌, Err, rules}
use Rattle.bureau_store.specs.declared.fault.StoreFault.TheVariants.{Memory}
use Rattle.bureau_sql.proofs.SetCallersFacts.{are_set, not_counted, not_read, not_set}
use Rattle.bureau_sql.proofs.store.SqlStore.set_callers.Goals as goal

pub returns-in_err-before : goal.returns-in_err-before
returns-in_err-before g c =
    let is : c.from_residual.result ≡ Err c.in_err-before.field-0.0 = search (rules, c.from_residual.ensures) in
    not_read g.S.Store c.args.callers.now _ _ c.in_err-before.field-0.0 c.in_err-before.ensures.reads c.in_err-before.ensures.rests c.from_residual.result is

pub returns-in_err-names : goal.returns-in_err-names
returns-in_err-names g c =
    let is : c.from_residual-in_err-names.result ≡ Err Memory = search (rules, c.from_residual-in_err-names.ensures) in
    not_counted g.S.Store c.args.callers.now _ _ _ c.in_ok-before.ensures.reads c.in_ok-before.ensures.rests c.from_residual-in_err-names.result is

pub returns-in_err-put_callers : goal.returns-in_err-put_callers
returns-in_err-put_callers g c =
    let is : c.from_residual-in_err-put_callers.result ≡ Err c.in_err-put_callers.field-0.0 = search (rules, c.from_residual-in_err-put_callers.ensures) in
    not_set g.S.Store c.args.callers.now _ _ _ c.in_ok-before.before.items _ c.as_slice-2.ensures.value _ c.in_ok-before.ensures.reads c.in_ok-before.ensures.callers
    c.in_err-put_callers.field-0.0 c.in_err-put_callers.ensures c.from_residual-in_err-put_callers.result is

pub returns : goal.returns
returns g c =
    are_set g.S.Store c.args.callers.now _ _ _ c.in_ok-before.before.items _ c.as_slice-2.ensures.value _ c.in_ok-before.ensures.reads c.in_ok-before.ensures.callers
    _ c.as_slice.ensures.value _ _ c.in_ok-before.ensures.ascend c.in_ok-names.ensures.counts c.in_ok-put_callers.ensures
