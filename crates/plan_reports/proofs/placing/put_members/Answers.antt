use Rattle.std.proofs.Common.{◌≡◌, ◌∙◌, ℕ, List, [], length, refl, ap, subst, arith}
use Rattle.std.specs.Global.{Vec}
use Rattle.std.specs.List.{Contains}
use Rattle.std.proofs.lemmas.List.{length-map}
use Rattle.lemmas.proofs.ListFacts.{get_any}
use Rattle.supersede.specs.Giving.{needs_in}
use Rattle.zone_plans.specs.Readings.{ReadingLists, reading_of}
use Rattle.zone_plans.proofs.FindingFacts.{need_found}
use Rattle.zone_plans.proofs.GraphFacts.{item_inside}
use Rattle.plan_reports.specs.Found.{ArePlaces, absent_givers, gives_one, is_needed_at, places_of}
use Rattle.plan_reports.proofs.PlaceFacts.{placed_more, placed_none, put_same}
use Rattle.plan_reports.proofs.placing.put_members.Goals as goal

pub loop-place-init : goal.loop-place-init
loop-place-init c = record {
  placed = λ content zone found.
      let items : Vec ℕ → List ℕ = λ list. list.items in
      placed_none (is_needed_at content zone c.args.ids.now) c.args.ids.now (places_of c.args.rows.now) (length-map c.args.rows.now items ∙ c.requires.len) c.requires.none;
  len = refl;
}

pub loop-place-preserved : goal.loop-place-preserved
loop-place-preserved c = record {
  placed = λ content zone found.
      let ids = c.args.ids.now in
      let i = c.loop-place.place in
      let id = c.index-ids-place.result in
      let old = places_of c.loop-place.rows in
      let new = places_of c.put_needs.new.rows in
      let f = absent_givers content zone in
      let inside : Contains ids id = item_inside ids i id c.loop-place-test.true c.index-ids-place.is in
      let read : c.reading-reading.result.now ≡ reading_of content zone id = c.reading-reading.ensures content zone found.so (found.each id inside) in
      let own : c.needs.result.now ≡ needs_in content zone id = c.needs.ensures ∙ ap (λ (r : ReadingLists). r.needs) read in
      placed_more (is_needed_at content zone ids) ids i old new (c.loop-place.invariant.placed content zone found)
      (put_same (gives_one f c.needs.result.now) (is_needed_at content zone ids i) ids i old new
      (λ other. ap (λ (l : List (List ℕ)). gives_one f l other) own ∙ ap (λ (x : List ℕ). gives_one f (needs_in content zone x) other) (c.index-ids-place.is ∙ get_any ids i id [] c.loop-place-test.true))
      (c.in_ok-put_needs.ensures.put content zone found.so (λ need needed.
      let P : List (List ℕ) → Type 0 = λ l. Contains l need in
      need_found content zone c.args.findings.now found.so id need (found.each id inside) (subst P own needed))));
  len = c.in_ok-put_needs.ensures.len ∙ c.loop-place.invariant.len;
}

pub returns-clause-put : goal.returns-clause-put
returns-clause-put c = λ content zone found.
    let P : ℕ → Type 0 = λ n. ArePlaces (is_needed_at content zone c.args.ids.now) c.args.ids.now n (places_of c.loop-place.rows) in
    let end : c.loop-place.place ≡ length c.args.ids.now = omega arith in
    subst P end (c.loop-place.invariant.placed content zone found)
