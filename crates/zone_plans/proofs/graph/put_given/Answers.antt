use Rattle.std.proofs.Common.{[], List, ℕ, option_map, sym, subst, arith}
use Rattle.std.proofs.lemmas.List.{take_all}
use Rattle.zone_plans.specs.Graphs.{AreGivenIndices}
use Rattle.zone_plans.proofs.GraphFacts.{given_more, given_none, item_inside}
use Rattle.zone_plans.proofs.graph.put_given.Goals as goal

pub loop-need-init : goal.loop-need-init
loop-need-init c = λ f are asked.
    let P : List ℕ → Type 0 = λ l. AreGivenIndices f c.args.ids.now c.args.left.now [] l in
    subst P (sym c.clear.ensures.items) (given_none f c.args.ids.now c.args.left.now)

pub loop-need-preserved : goal.loop-need-preserved
loop-need-preserved c = λ f are asked.
    let needs = c.args.needs.now in
    let need = c.need-item.result in
    let answer = option_map (λ ids. ids.items) c.answer_among.result.now in
    let is = c.answer_among.ensures f are (asked need (item_inside needs c.loop-need.need-index need c.loop-need-test.true c.need-item.is)) in
    given_more f c.args.ids.now c.args.left.now needs c.loop-need.need-index need answer c.loop-need.indices.items c.push_answer.new.indices.items
    c.loop-need-test.true c.need-item.is (sym is) (c.loop-need.invariant f are asked) c.in_ok-push_answer.ensures

pub returns : goal.returns
returns c = λ f are asked.
    let P : List (List ℕ) → Type 0 = λ l. AreGivenIndices f c.args.ids.now c.args.left.now l c.loop-need.indices.items in
    subst P (take_all c.loop-need.need-index c.args.needs.now (omega arith)) (c.loop-need.invariant f are asked)
