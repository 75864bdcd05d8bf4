use Rattle.std.proofs.Common.{[], Some, map, take, refl}
use Rattle.plan_reports.specs.Tables.{plan_columns, plan_fields}
use Rattle.plan_reports.proofs.TableFacts.{row_more}
use Rattle.plan_reports.proofs.member_tables.plan_table.Goals as goal

pub loop-member-preserved : goal.loop-member-preserved
loop-member-preserved c =
    let title = Some c.in_ok-title.title.items in
    row_more plan_fields plan_columns title [] c.args.members.now c.loop-member.member-index c.member-item.result (plan_fields c.member-item.result) c.push_member.new.table c.loop-member-test.true c.member-item.is
    (c.in_ok-push_member.ensures plan_columns title (map plan_fields (take c.loop-member.member-index c.args.members.now)) c.loop-member.invariant) refl
