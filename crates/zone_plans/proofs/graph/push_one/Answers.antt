use Rattle.std.proofs.Common.{◌∙◌, sym}
use Rattle.zone_plans.proofs.GraphFacts.{pushed_absent, pushed_one, pushed_unmarked}
use Rattle.zone_plans.proofs.graph.push_one.Goals as goal

pub returns-in_ok-push : goal.returns-in_ok-push
returns-in_ok-push c =
    pushed_one c.args.ids.now c.args.left.now c.args.giver.now c.in-Some.index c.args.indices.now.items c.push.new.self.items c.requires c.in-Some.ensures.some
    (sym c.is_marked.ensures ∙ c.if-is_marked.true) c.in_ok-push.ensures.items

pub returns-else-is_marked : goal.returns-else-is_marked
returns-else-is_marked c =
    pushed_unmarked c.args.ids.now c.args.left.now c.args.giver.now c.in-Some.index c.args.indices.now.items c.requires c.in-Some.ensures.some
    (sym c.is_marked.ensures ∙ c.if-is_marked.false)

pub returns-in_default : goal.returns-in_default
returns-in_default c = pushed_absent c.args.ids.now c.args.left.now c.args.giver.now c.args.indices.now.items c.in_default.ensures.none
