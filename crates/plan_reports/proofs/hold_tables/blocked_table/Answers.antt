use Rattle.std.proofs.Common.{[], Some, map, take}
use Rattle.std.specs.Prelude.{codes}
use Rattle.plan_reports.specs.Tables.{blocked_columns, blocked_fields}
use Rattle.plan_reports.proofs.TableFacts.{row_more}
use Rattle.plan_reports.proofs.hold_tables.blocked_table.Goals as goal

pub loop-one-preserved : goal.loop-one-preserved
loop-one-preserved c =
    let title = Some (codes "BLOCKED NEEDS") in
    row_more blocked_fields blocked_columns title [] c.args.needs.now c.loop-one.one-index c.one-item.result _ c.push.new.self c.loop-one-test.true c.one-item.is
    (c.in_ok-push.ensures.rows blocked_columns title (map blocked_fields (take c.loop-one.one-index c.args.needs.now)) c.loop-one.invariant) c.blocked_fields.ensures
