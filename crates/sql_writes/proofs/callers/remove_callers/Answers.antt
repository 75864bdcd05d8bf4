use Rattle.std.proofs.Common.{◌∙◌, [], arith, take}
use Rattle.std.specs.Prelude.{fold}
use Rattle.sql_tables.specs.Changes.{without_caller}
use Rattle.sql_tables.specs.Stored.{caller_table}
use Rattle.sql_rows.proofs.ChangeFacts.{stopped}
use Rattle.sql_rows.proofs.TurnFacts.{begun, ended, more}
use Rattle.sql_writes.proofs.LoadFacts.{leaving_turn}
use Rattle.sql_writes.proofs.callers.remove_callers.Goals as goal

pub loop-name-init : goal.loop-name-init
loop-name-init g c = record {
  same = c.callers.ensures.same;
  changes = begun _ _ (λ names stored. caller_table.with_rows [] (fold without_caller stored names)) leaving_turn c.args.names.now _ _ _ tt c.in_ok-callers.ensures.changes;
}

pub returns-in_err-leave_nothing-clause-changes : goal.returns-in_err-leave_nothing-clause-changes
returns-in_err-leave_nothing-clause-changes g c =
    stopped _ _ _ tt _ _ (λ stored. caller_table.with_rows [] (fold without_caller stored (take c.loop-name.name-index c.args.names.now))) _ _ c.from_residual-in_err-leave_nothing.ensures.0 c.loop-name.invariant.changes c.in_err-leave_nothing.ensures.changes

pub loop-name-preserved : goal.loop-name-preserved
loop-name-preserved g c = record {
  same = c.leave_nothing.ensures.same ∙ c.loop-name.invariant.same;
  changes = more _ _ (λ names stored. caller_table.with_rows [] (fold without_caller stored names)) leaving_turn c.args.names.now _ _ _ tt _ c.loop-name.name-index c.name-item.result c.loop-name-test.true c.name-item.is
      c.loop-name.invariant.changes c.in_ok-leave_nothing.ensures.changes;
}

pub returns-clause-changes : goal.returns-clause-changes
returns-clause-changes g c =
    ended _ _ (λ names stored. caller_table.with_rows [] (fold without_caller stored names)) leaving_turn c.args.names.now _ _ tt c.loop-name.name-index (omega (arith, c.loop-name-test.false)) c.loop-name.invariant.changes
