use Rattle.std.proofs.Common.{◌∙◌, [], ◌++◌, ◌∷◌, Err, IsTrue, Ok, arith, subst, take}
use Rattle.std.proofs.lemmas.List.{take_all}
use Rattle.sqlite.specs.Held.{state}
use Rattle.sqlite.specs.State.{HasCleanDisk}
use Rattle.sqlite.specs.declared.error.Error.{Error}
use Rattle.sql_writes.specs.Excused.{Excuses}
use Rattle.sql_writes.specs.Making.{IsEmpty, IsOpened, Leads}
use Rattle.sql_writes.proofs.ExcuseFacts.{excused_then, excused_told}
use Rattle.sql_writes.proofs.FoundFacts.{fit_next, next_taken}
use Rattle.sql_writes.proofs.MakeFacts.{leads_nowhere, leads_then}
use Rattle.sql_writes.proofs.tables.create.Goals as goal

pub returns-in_err-with_version-clause-made : goal.returns-in_err-with_version-clause-made
returns-in_err-with_version-clause-made g c = leads_nowhere _ _ _ _ IsEmpty (IsOpened []) _ c.from_residual.ensures.0 c.in_err-with_version.ensures.made

pub loop-caller-init : goal.loop-caller-init
loop-caller-init g c = record { same = c.with_version.ensures.same; made = c.in_ok-with_version.ensures.made }

pub returns-in_err-caller-clause-made : goal.returns-in_err-caller-clause-made
returns-in_err-caller-clause-made g c =
    let before = take c.loop-caller.caller-index c.args.callers.now in
    leads_nowhere _ _ _ _ IsEmpty (IsOpened (before ++ c.caller-item.result ∷ [])) _ c.from_residual-in_err-caller.ensures.0
    (leads_then _ _ _ tt (Err c.in_err-caller.field-0.0) IsEmpty (IsOpened before) (IsOpened (before ++ c.caller-item.result ∷ [])) c.loop-caller.invariant.made (c.in_err-caller.ensures.opened before))

pub returns-in_err-caller-clause-excused : goal.returns-in_err-caller-clause-excused
returns-in_err-caller-clause-excused g c fit =
    let before = take c.loop-caller.caller-index c.args.callers.now in
    let old = state g.S.Store c.args.tx.now.conn.now in
    let new = state g.S.Store c.caller.new.tx.conn.now in
    let excused : HasCleanDisk new → IsTrue old.in_transaction → IsEmpty old.now → Excuses old new c.in_err-caller.field-0.0 =
    excused_then {B = Unit {0}} _ _ _ tt (Err c.in_err-caller.field-0.0) IsEmpty (IsOpened before) c.loop-caller.invariant.made (c.in_err-caller.ensures.opened before).survives
    (c.in_err-caller.ensures.excused before (fit_next c.args.callers.now c.loop-caller.caller-index c.caller-item.result c.loop-caller-test.true c.caller-item.is fit)) in
    excused_told old new _ c.in_err-caller.field-0.0 IsEmpty c.from_residual-in_err-caller.ensures.1 excused

pub loop-caller-preserved : goal.loop-caller-preserved
loop-caller-preserved g c = record {
  same = c.caller.ensures.same ∙ c.loop-caller.invariant.same;
  made = subst (λ callers. Leads {Answer = Unit {0}} {Fault = Error} (state g.S.Store c.args.tx.now.conn.now) (state g.S.Store c.caller.new.tx.conn.now) (Ok tt) IsEmpty (IsOpened callers)) (next_taken c.args.callers.now c.loop-caller.caller-index c.caller-item.result c.loop-caller-test.true c.caller-item.is)
      (leads_then _ _ _ tt _ IsEmpty (IsOpened (take c.loop-caller.caller-index c.args.callers.now)) _ c.loop-caller.invariant.made (c.in_ok-caller.ensures.opened (take c.loop-caller.caller-index c.args.callers.now)));
}

pub returns-clause-made : goal.returns-clause-made
returns-clause-made g c =
    subst (λ callers. Leads {Answer = Unit {0}} {Fault = Error} (state g.S.Store c.args.tx.now.conn.now) (state g.S.Store c.loop-caller.tx.conn.now) (Ok tt) IsEmpty (IsOpened callers)) (take_all c.loop-caller.caller-index c.args.callers.now (omega (arith, c.loop-caller-test.false))) c.loop-caller.invariant.made
