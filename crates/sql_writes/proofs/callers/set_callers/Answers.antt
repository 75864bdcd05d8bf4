use Rattle.std.proofs.Common.{◌∙◌, arith, take}
use Rattle.sql_tables.specs.Changes.{with_callers}
use Rattle.sql_rows.proofs.ChangeFacts.{stopped}
use Rattle.sql_rows.proofs.TurnFacts.{begun, ended, more}
use Rattle.sql_writes.proofs.LoadFacts.{callers_turn}
use Rattle.sql_writes.proofs.callers.set_callers.Goals as goal

pub loop-caller-init : goal.loop-caller-init
loop-caller-init g c = record {
  same = c.remove_callers.ensures.same;
  changes = begun _ _ (with_callers c.args.names.now) (callers_turn c.args.names.now) c.args.callers.now _ _ _ tt c.in_ok-remove_callers.ensures.changes;
}

pub returns-in_err-caller-clause-changes : goal.returns-in_err-caller-clause-changes
returns-in_err-caller-clause-changes g c =
    stopped _ _ _ tt _ _ (with_callers c.args.names.now (take c.loop-caller.caller-index c.args.callers.now)) _ _ c.from_residual-in_err-caller.ensures.0 c.loop-caller.invariant.changes c.in_err-caller.ensures.changes

pub loop-caller-preserved : goal.loop-caller-preserved
loop-caller-preserved g c = record {
  same = c.caller.ensures.same ∙ c.loop-caller.invariant.same;
  changes = more _ _ (with_callers c.args.names.now) (callers_turn c.args.names.now) c.args.callers.now _ _ _ tt _ c.loop-caller.caller-index c.caller-item.result c.loop-caller-test.true c.caller-item.is
      c.loop-caller.invariant.changes c.in_ok-caller.ensures.changes;
}

pub returns-clause-changes : goal.returns-clause-changes
returns-clause-changes g c =
    ended _ _ (with_callers c.args.names.now) (callers_turn c.args.names.now) c.args.callers.now _ _ tt c.loop-caller.caller-index (omega (arith, c.loop-caller-test.false)) c.loop-caller.invariant.changes
