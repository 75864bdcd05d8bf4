use Rattle.std.proofs.Common.{Some, take}
use Rattle.std.specs.List.{flat_map}
use Rattle.std.specs.Prelude.{codes}
use Rattle.plan_reports.specs.Tables.{heed_columns, heeds_of}
use Rattle.plan_reports.proofs.TableFacts.{rows_more}
use Rattle.plan_reports.proofs.member_tables.heed_table.Goals as goal

pub loop-member-preserved : goal.loop-member-preserved
loop-member-preserved c =
    let title = Some (codes "HOLDS TO HEED") in
    rows_more heeds_of heed_columns title c.args.members.now c.loop-member.member-index c.member-item.result c.push_member_heeds.new.table c.loop-member-test.true c.member-item.is
    (c.in_ok-push_member_heeds.ensures heed_columns title (flat_map heeds_of (take c.loop-member.member-index c.args.members.now)) c.loop-member.invariant)
