use Rattle.std.proofs.Common.{◌≡◌, ◌∙◌, ◌++◌, ◌∷◌, [], Bool, cond, ap}
use Rattle.std.specs.Prelude.{not}
use Rattle.verdicts.proofs.IndexFacts.{inside_at}
use Rattle.zone_plans.proofs.ChoiceFacts.{filter_more}
use Rattle.zone_plans.proofs.GraphFacts.{item_inside}
use Rattle.zone_plans.proofs.tops.those_not_given.Goals as goal

pub loop-id-preserved : goal.loop-id-preserved
loop-id-preserved c = λ f among are.
    let ids = c.args.ids.now in
    let id = c.id-item.result in
    let listed = item_inside ids c.loop-id.id-index id c.loop-id-test.true c.id-item.is in
    let at = inside_at c.args.members.now id (among id listed) in
    let is : c.has_other-keep.result ≡ f id = c.has_other-keep.ensures at.index (record { within = at.within; is = at.is }) ∙ are id at.index listed (record { within = at.within; is = at.is }) in
    filter_more (λ id. not (f id)) ids c.loop-id.id-index id c.loop-id.kept.items c.push_if.new.ids.items c.loop-id-test.true c.id-item.is (c.loop-id.invariant f among are)
    (c.in_ok-push_if.ensures ∙ ap (λ (b : Bool). c.loop-id.kept.items ++ cond (not b) (id ∷ []) []) is)
