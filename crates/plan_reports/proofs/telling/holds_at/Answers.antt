use Rattle.zone_plans.specs.declared.holds.ChosenResolver.{ChosenResolver}
use Rattle.plan_reports.proofs.PlaceFacts.{mapped_more}
use Rattle.plan_reports.proofs.telling.holds_at.Goals as goal

pub loop-place-preserved : goal.loop-place-preserved
loop-place-preserved c =
    mapped_more (λ (one : ChosenResolver). one.hold) c.args.resolved.now c.args.places.now c.loop-place.place-index c.resolved_at.result c.loop-place.holds.items c.push_hold.new.holds.items
    c.loop-place-test.true c.resolved_at.ensures c.loop-place.invariant c.in_ok-push_hold.ensures
