use Rattle.std.proofs.Common.{◌≡◌, Err, IfErr, rules, subst, sym}
use Rattle.sqlite.specs.Held.{state}
use Rattle.sqlite.specs.State.{HasCleanDisk}
use Rattle.sql_checks.specs.Refused.{IsCausedBy}
use Rattle.sql_reads.specs.declared.fault.ReadFault.TheVariants.{Device}
use Rattle.store_runs.specs.Checking.{IsUntold}
use Rattle.store_runs.proofs.CheckFacts.{callers_untold, tallied, tally_untold}
use Rattle.store_runs.proofs.checking.tally.Goals as goal

pub returns-in-Ok-clause-looks : goal.returns-in-Ok-clause-looks
returns-in-Ok-clause-looks g c =
    tallied (state g.S.Store c.args.conn.now) (state g.S.Store c.every_caller.new.conn) (state g.S.Store c.store_tally.new.conn) c.in_ok-callers.callers c.as_slice.result.now c.in-Ok.tally c.text_of.result
    c.in_ok-callers.ensures.finds c.in_ok-callers.ensures.ascend c.as_slice.ensures.value c.in-Ok.ensures.looks c.text_of.ensures.text

pub returns-in_err-callers-clause-cause : goal.returns-in_err-callers-clause-cause
returns-in_err-callers-clause-cause g c =
    let old = state g.S.Store c.args.conn.now in
    let new = state g.S.Store c.every_caller.new.conn in
    let is : c.from_residual.result ≡ Err c.in_err-callers.field-0.0 = search (rules, c.from_residual.ensures) in
    subst (λ result. IfErr result (λ fault. fault ≡ Device → HasCleanDisk new → IsCausedBy IsUntold old new)) (sym is)
    (λ device clean. callers_untold old new (c.in_err-callers.ensures.cause device clean))

pub returns-clause-cause : goal.returns-clause-cause
returns-clause-cause g c =
    tally_untold (state g.S.Store c.args.conn.now) (state g.S.Store c.every_caller.new.conn) (state g.S.Store c.store_tally.new.conn) c.as_slice.result.now c.in-Err.fault
    c.in_ok-callers.ensures.finds.reads c.in_ok-callers.ensures.finds.is_open c.in-Err.ensures.looks.reads c.in-Err.ensures.cause
