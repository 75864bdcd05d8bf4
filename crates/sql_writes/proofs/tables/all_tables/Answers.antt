use Rattle.std.proofs.Common.{◌∙◌}
use Rattle.sqlite.specs.Held.{state}
use Rattle.sql_writes.specs.Making.{IsEmpty, IsMade}
use Rattle.sql_writes.proofs.CreateFacts.{all_came, all_left, next_came, next_excused, next_refused}
use Rattle.sql_writes.proofs.ExcuseFacts.{excused_told}
use Rattle.sql_writes.proofs.MakeFacts.{leads_nowhere}
use Rattle.sql_writes.proofs.tables.all_tables.Goals as goal

pub returns-in_err-bureau_version-clause-made : goal.returns-in_err-bureau_version-clause-made
returns-in_err-bureau_version-clause-made g c = leads_nowhere _ _ _ _ IsEmpty (IsMade 1 0) _ c.from_residual.ensures.0 c.in_err-bureau_version.ensures.made

pub loop-text-init : goal.loop-text-init
loop-text-init g c = record { same = c.bureau_version.ensures.same; left = all_left _ _ _ c.others-text-items.ensures c.in_ok-bureau_version.ensures.made }

pub loop-text-preserved : goal.loop-text-preserved
loop-text-preserved g c = record {
  same = c.run.ensures.same ∙ c.loop-text.invariant.same;
  left = next_came _ _ _ c.others-text-items.result c.others-text-items.ensures c.loop-text.text-index c.loop-text-test.true c.loop-text.invariant.left c.in_ok-run.ensures.ran;
}

pub returns-in_err-run-clause-made : goal.returns-in_err-run-clause-made
returns-in_err-run-clause-made g c =
    next_refused _ _ _ c.others-text-items.result c.others-text-items.ensures c.loop-text.text-index c.loop-text-test.true c.loop-text.invariant.left _ c.in_err-run.field-0.0 _ _
    c.from_residual-in_err-run.ensures.0 c.in_err-run.ensures.ran

pub returns-in_err-run-clause-excused : goal.returns-in_err-run-clause-excused
returns-in_err-run-clause-excused g c =
    let old = state g.S.Store c.args.tx.now.conn.now in
    let new = state g.S.Store c.run.new.tx.conn.now in
    excused_told old new _ c.in_err-run.field-0.0 IsEmpty c.from_residual-in_err-run.ensures.1
    (next_excused _ _ _ c.others-text-items.result c.others-text-items.ensures c.loop-text.text-index c.loop-text-test.true c.loop-text.invariant.left c.in_err-run.field-0.0 c.in_err-run.ensures.ran.survives c.in_err-run.ensures.fails)

pub returns-clause-made : goal.returns-clause-made
returns-clause-made g c = all_came _ _ c.others-text-items.result c.others-text-items.ensures c.loop-text.text-index c.loop-text-test.false c.loop-text.invariant.left
