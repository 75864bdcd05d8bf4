use Rattle.std.proofs.Common.{Some, take}
use Rattle.std.specs.List.{flat_map}
use Rattle.std.specs.Prelude.{codes}
use Rattle.plan_reports.specs.Tables.{cause_columns, causes_of}
use Rattle.plan_reports.proofs.TableFacts.{rows_more}
use Rattle.plan_reports.proofs.member_tables.cause_table.Goals as goal

pub loop-member-preserved : goal.loop-member-preserved
loop-member-preserved c =
    let title = Some (codes "CAUSES") in
    rows_more causes_of cause_columns title c.args.members.now c.loop-member.member-index c.member-item.result c.push_causes.new.table c.loop-member-test.true c.member-item.is
    (c.in_ok-push_causes.ensures cause_columns title (flat_map causes_of (take c.loop-member.member-index c.args.members.now)) c.loop-member.invariant)
