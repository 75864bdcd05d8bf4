use Rattle.std.proofs.Common.{[], Some, map, take}
use Rattle.std.specs.Prelude.{codes}
use Rattle.plan_reports.specs.Tables.{hold_columns, hold_fields}
use Rattle.plan_reports.proofs.TableFacts.{row_more}
use Rattle.plan_reports.proofs.hold_tables.unresolved_table.Goals as goal

pub loop-hold-preserved : goal.loop-hold-preserved
loop-hold-preserved c =
    let title = Some (codes "HOLDS WITHOUT GOOD OR HELD RESOLVER") in
    row_more hold_fields hold_columns title [] c.args.holds.now c.loop-hold.hold-index c.hold-item.result _ c.push.new.self c.loop-hold-test.true c.hold-item.is
    (c.in_ok-push.ensures.rows hold_columns title (map hold_fields (take c.loop-hold.hold-index c.args.holds.now)) c.loop-hold.invariant) c.hold_fields.ensures
