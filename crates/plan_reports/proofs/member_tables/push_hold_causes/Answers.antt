use Rattle.plan_reports.specs.Tables.{hold_cause}
use Rattle.plan_reports.proofs.TableFacts.{added_more}
use Rattle.plan_reports.proofs.member_tables.push_hold_causes.Goals as goal

pub loop-hold-preserved : goal.loop-hold-preserved
loop-hold-preserved c =
    added_more (hold_cause c.args.id.now) c.args.holds.now c.loop-hold.hold-index c.hold-item.result _ c.args.table.now c.loop-hold.table c.push.new.self
    c.loop-hold-test.true c.hold-item.is c.loop-hold.invariant c.in_ok-push.ensures.rows c.hold_cause.ensures
