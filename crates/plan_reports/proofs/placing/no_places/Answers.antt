use Rattle.std.proofs.Common.{◌≡◌, ◌∙◌, ℕ, List, [], ◌∷◌, ap, length, subst, sym, arith}
use Rattle.requisites.specs.Nodes.{row}
use Rattle.std.proofs.lemmas.List.{length-append}
use Rattle.install_order.proofs.RowFacts.{lists_push, none_more}
use Rattle.plan_reports.specs.Found.{places_of}
use Rattle.plan_reports.proofs.placing.no_places.Goals as goal

pub loop-place-preserved : goal.loop-place-preserved
loop-place-preserved c =
    let rows = c.loop-place.rows.items in
    let own = c.new.result in
    let P : List (List ℕ) → Type 0 = λ l. (q : ℕ) → row l q ≡ [] in
    let grown = c.in_ok-push.ensures.items in (
      subst P (sym (ap places_of grown ∙ lists_push rows own c.new.ensures.items)) (none_more (places_of rows) c.loop-place.invariant.0),
      ap length grown ∙ (let len = c.loop-place.invariant.1 in omega (arith, length-append rows (own ∷ []))),
    )
