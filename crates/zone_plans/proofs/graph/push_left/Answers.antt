use Rattle.zone_plans.proofs.GraphFacts.{pushed_more, pushed_none}
use Rattle.zone_plans.proofs.graph.push_left.Goals as goal

pub loop-giver-init : goal.loop-giver-init
loop-giver-init c = pushed_none c.args.ids.now c.args.left.now c.args.indices.now.items

pub loop-giver-preserved : goal.loop-giver-preserved
loop-giver-preserved c =
    pushed_more c.args.ids.now c.args.left.now c.args.givers.now c.loop-giver.giver-index c.giver-item.result c.args.indices.now.items c.loop-giver.indices.items c.push_one.new.indices.items
    c.loop-giver-test.true c.giver-item.is c.loop-giver.invariant c.in_ok-push_one.ensures
