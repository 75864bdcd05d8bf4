use Rattle.std.proofs.Common.{List, ℕ}
use Rattle.std.specs.Prelude.{not}
use Rattle.catalogue.specs.Ids.{same_id}
use Rattle.plan_reports.proofs.PlaceFacts.{filtered_more}
use Rattle.plan_reports.proofs.telling.others_at.Goals as goal

pub loop-place-preserved : goal.loop-place-preserved
loop-place-preserved c =
    filtered_more (λ (other : List ℕ). not (same_id other c.args.id.now)) c.args.ids.now c.args.places.now c.loop-place.place-index c.id_at.result c.loop-place.others.items c.push_other.new.others.items
    c.loop-place-test.true c.id_at.ensures c.loop-place.invariant c.in_ok-push_other.ensures
