use Rattle.std.proofs.Common.{◌∙◌, refl, ap, map, arith}
use Rattle.std.proofs.lemmas.List.{take_all}
use Rattle.zone_plans.specs.Plans.{placed}
use Rattle.zone_plans.proofs.ChoiceFacts.{map_more}
use Rattle.zone_plans.proofs.GraphFacts.{element_inside}
use Rattle.zone_plans.proofs.placing.placed_by.Goals as goal

pub loop-hold-preserved : goal.loop-hold-preserved
loop-hold-preserved c = λ content climb inside.
    map_more (placed content) c.args.holds.now c.loop-hold.hold-index c.hold-item.result (placed content c.hold-item.result) c.loop-hold.found.items c.put_placed.new.found.items
    c.loop-hold-test.true c.hold-item.is (c.loop-hold.invariant content climb inside) refl
    (c.in_ok-put_placed.ensures content climb (inside c.hold-item.result (element_inside c.args.holds.now c.loop-hold.hold-index c.hold-item.result c.loop-hold-test.true c.hold-item.is)))

pub returns : goal.returns
returns c = λ content climb inside.
    c.loop-hold.invariant content climb inside ∙ ap (map (placed content)) (take_all c.loop-hold.hold-index c.args.holds.now (omega (arith, c.loop-hold-test.false)))
