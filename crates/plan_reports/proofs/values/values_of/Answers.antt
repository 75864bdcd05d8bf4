use Rattle.std.proofs.Common.{◌∙◌, map, ap}
use Rattle.std.proofs.lemmas.List.{take_all}
use Rattle.serde_json.specs.View.{items_of}
use Rattle.reports.proofs.ChainFacts.{value_more}
use Rattle.plan_reports.proofs.values.values_of.Goals as goal

pub loop-item-preserved : goal.loop-item-preserved
loop-item-preserved g c =
    value_more g.T.ToValue.data_of c.args.items.now c.loop-item.item-index c.item-item.result c.loop-item.values.items c.push.new.self.items c.in_ok-to_value.field-0
    c.loop-item-test.true c.item-item.is c.loop-item.invariant c.in_ok-to_value.ensures c.in_ok-push.ensures.items

pub returns : goal.returns
returns g c = ap items_of (c.loop-item.invariant ∙ ap (map g.T.ToValue.data_of) (take_all c.loop-item.item-index c.args.items.now c.loop-item-test.false))
