use Rattle.std.proofs.Common.{◌≡◌, ◌∙◌, List, Option, [], ℕ, option_map, refl, subst}
use Rattle.std.specs.Global.{Vec}
use Rattle.mcs_reader.specs.declared.id.Id.{Id}
use Rattle.supersede.specs.Reach.{has}
use Rattle.verdicts.specs.Candidates.{candidates_unless_there}
use Rattle.zone_plans.proofs.GraphFacts.{item_inside}
use Rattle.plan_reports.specs.Found.{ArePut, absent_givers, gives_one, or_none, places_of}
use Rattle.plan_reports.proofs.PlaceFacts.{put_by, put_need_more, put_none}
use Rattle.plan_reports.proofs.placing.put_needs.Goals as goal

pub loop-need-init : goal.loop-need-init
loop-need-init c = record {
  put = λ content zone are asked. put_none (gives_one (absent_givers content zone) []) c.args.ids.now c.args.place (places_of c.args.rows.now) (λ id. refl);
  len = refl;
}

pub loop-need-preserved : goal.loop-need-preserved
loop-need-preserved c = record {
  put = λ content zone are asked.
      let needs = c.args.needs.now in
      let ids = c.args.ids.now in
      let need = c.need-item.result in
      let old = places_of c.loop-need.rows in
      let new = places_of c.put_answer.new.rows in
      let answer = option_map (λ (list : Vec Id). list.items) c.answer.result.now in
      let given : answer ≡ candidates_unless_there content zone need =
      c.answer.ensures content zone are (asked need (item_inside needs c.loop-need.need-index need c.loop-need-test.true c.need-item.is)) in
      let P : Option (List (List ℕ)) → Type 0 = λ o. ArePut (has (or_none o)) ids c.args.place old new in
      put_need_more (absent_givers content zone) needs ids c.loop-need.need-index need c.args.place (places_of c.args.rows.now) old new
      c.loop-need-test.true c.need-item.is (c.loop-need.invariant.put content zone are asked)
      (subst P given (put_by answer ids c.args.place old new c.in_ok-put_answer.ensures.put));
  len = c.in_ok-put_answer.ensures.len ∙ c.loop-need.invariant.len;
}
