use Rattle.plan_reports.specs.Tables.{heed_fields}
use Rattle.plan_reports.proofs.TableFacts.{added_more}
use Rattle.plan_reports.proofs.member_tables.push_heeds.Goals as goal

pub loop-reason-preserved : goal.loop-reason-preserved
loop-reason-preserved c =
    added_more (heed_fields c.args.id.now c.args.kind.now) c.args.reasons.now c.loop-reason.reason-index c.reason-item.result _ c.args.table.now c.loop-reason.table c.push.new.self
    c.loop-reason-test.true c.reason-item.is c.loop-reason.invariant c.in_ok-push.ensures.rows c.heed_fields.ensures
