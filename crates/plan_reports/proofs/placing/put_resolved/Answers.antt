use Rattle.std.proofs.Common.{◌≡◌, ◌∙◌, ℕ, List, length, refl, ap, arith, subst}
use Rattle.std.specs.Global.{Vec}
use Rattle.std.proofs.lemmas.List.{length-map}
use Rattle.lemmas.proofs.ListFacts.{map_inside}
use Rattle.supersede.specs.Reach.{has}
use Rattle.zone_plans.specs.Findings.{known_givers}
use Rattle.zone_plans.specs.declared.holds.ChosenResolver.{ChosenResolver}
use Rattle.zone_plans.proofs.GraphFacts.{element_inside}
use Rattle.plan_reports.specs.Found.{ArePlaces, places_of, resolves_at}
use Rattle.plan_reports.proofs.FoundFacts.{resolver_is}
use Rattle.plan_reports.proofs.PlaceFacts.{placed_more, placed_none, put_same}
use Rattle.plan_reports.proofs.placing.put_resolved.Goals as goal

pub loop-place-init : goal.loop-place-init
loop-place-init c = record {
  placed = λ content zone found.
      let items : Vec ℕ → List ℕ = λ list. list.items in
      placed_none (resolves_at content zone c.args.resolved.now) c.args.ids.now (places_of c.args.rows.now) (length-map c.args.rows.now items ∙ c.requires.len) c.requires.none;
  len = refl;
}

pub loop-place-preserved : goal.loop-place-preserved
loop-place-preserved c = record {
  placed = λ content zone found.
      let resolved = c.args.resolved.now in
      let ids = c.args.ids.now in
      let i = c.loop-place.place in
      let one = c.index-resolved-place.result in
      let old = places_of c.loop-place.rows in
      let new = places_of c.put_all.new.rows in
      let f = known_givers content zone in
      let inside = map_inside (λ (r : ChosenResolver). r.resolver) resolved one (element_inside resolved i one c.loop-place-test.true c.index-resolved-place.is) in
      let given = c.givers.ensures content zone found.so (found.each one.resolver inside) in
      placed_more (resolves_at content zone resolved) ids i old new (c.loop-place.invariant.placed content zone found)
      (put_same (has c.deref.result.now) (resolves_at content zone resolved i) ids i old new
      (λ id. ap (λ (l : List (List ℕ)). has l id) (c.deref.ensures.value ∙ given) ∙ ap (λ (r : List ℕ). has (f r) id) (resolver_is resolved i one c.loop-place-test.true c.index-resolved-place.is))
      c.in_ok-put_all.ensures.put);
  len = c.in_ok-put_all.ensures.len ∙ c.loop-place.invariant.len;
}

pub returns-clause-put : goal.returns-clause-put
returns-clause-put c = λ content zone found.
    let P : ℕ → Type 0 = λ n. ArePlaces (resolves_at content zone c.args.resolved.now) c.args.ids.now n (places_of c.loop-place.rows) in
    let end : c.loop-place.place ≡ length c.args.resolved.now = omega arith in
    subst P end (c.loop-place.invariant.placed content zone found)
