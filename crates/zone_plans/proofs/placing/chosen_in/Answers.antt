use Rattle.zone_plans.specs.Plans.{resolver_by}
use Rattle.zone_plans.specs.declared.placing.Placed.{Placed}
use Rattle.zone_plans.proofs.ChoiceFacts.{made_more}
use Rattle.zone_plans.proofs.placing.chosen_in.Goals as goal

pub loop-one-preserved : goal.loop-one-preserved
loop-one-preserved c =
    made_more (λ (one : Placed). resolver_by one.fate) c.args.holds.now c.loop-one.one-index c.one-item.result c.loop-one.ids.keys c.put_chosen.new.ids.keys c.loop-one-test.true c.one-item.is
    c.loop-one.invariant c.in_ok-put_chosen.ensures
