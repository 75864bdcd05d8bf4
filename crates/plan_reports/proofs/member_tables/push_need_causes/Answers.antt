use Rattle.plan_reports.specs.Tables.{need_cause}
use Rattle.plan_reports.proofs.TableFacts.{added_more}
use Rattle.plan_reports.proofs.member_tables.push_need_causes.Goals as goal

pub loop-other-preserved : goal.loop-other-preserved
loop-other-preserved c =
    added_more (need_cause c.args.id.now) c.args.others.now c.loop-other.other-index c.other-item.result _ c.args.table.now c.loop-other.table c.push.new.self
    c.loop-other-test.true c.other-item.is c.loop-other.invariant c.in_ok-push.ensures.rows c.need_cause.ensures
