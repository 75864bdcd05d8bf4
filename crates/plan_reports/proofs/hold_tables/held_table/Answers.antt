use Rattle.std.proofs.Common.{[], Some, map, take}
use Rattle.std.specs.Prelude.{codes}
use Rattle.plan_reports.specs.Tables.{held_columns, held_fields}
use Rattle.plan_reports.proofs.TableFacts.{row_more}
use Rattle.plan_reports.proofs.hold_tables.held_table.Goals as goal

pub loop-one-preserved : goal.loop-one-preserved
loop-one-preserved c =
    let title = Some (codes "HOLDS WITH HELD RESOLVERS") in
    row_more held_fields held_columns title [] c.args.holds.now c.loop-one.one-index c.one-item.result _ c.push.new.self c.loop-one-test.true c.one-item.is
    (c.in_ok-push.ensures.rows held_columns title (map held_fields (take c.loop-one.one-index c.args.holds.now)) c.loop-one.invariant) c.held_fields.ensures
