use Rattle.std.proofs.Common.{◌≡◌, ◌∙◌, ℕ, List, [], map, sym, ap, subst}
use Rattle.std.specs.Global.{Vec}
use Rattle.std.specs.List.{Contains, filter}
use Rattle.lemmas.proofs.ResultFacts.{ok_so}
use Rattle.mcs_reader.specs.declared.id.Id.{Id}
use Rattle.reports.specs.declared.holds.Resolver.{Resolver}
use Rattle.zone_plans.specs.Choices.{greatest_of, of_status, on_top}
use Rattle.zone_plans.proofs.ChosenFacts.{among_inside, among_of, empty_is, none_received, some_is_not, some_received}
use Rattle.zone_plans.proofs.choice.choice.Goals.{then-is_empty+in_ok-ids_of+in_ok-top, else-is_empty+in_ok-ids_of-2+in_ok-top-2}
use Rattle.zone_plans.proofs.choice.choice.Goals as goal

pub returns : goal.returns
returns c = ok_so c.greatest.result c.greatest.ensures (λ chosen is content climb inside.
    let status = c.args.status in
    let hold = c.args.hold.now in
    let ids = c.args.climb.now.ids.items in
    let id_of : Resolver → List ℕ = λ (r : Resolver). r.id in
    let kinds : c.in_ok-kept.kept.items ≡ of_status status hold.resolvers = c.in_ok-kept.ensures ∙ ap (λ (l : List Resolver). of_status status l) c.resolvers.ensures in
    let received : c.in_ok-received.received.items ≡ filter (λ (r : Resolver). r.received) (of_status status hold.resolvers) = c.in_ok-received.ensures ∙ ap (filter (λ (r : Resolver). r.received)) (c.deref.ensures.value ∙ kinds) in
    let T : Vec Id → Type 0 = λ v. v.items ≡ on_top content (among_of status hold) in
    let I : List (List ℕ) → Type 0 = λ l. (id : List ℕ) → Contains l id → Contains ids id in
    let top : c.if-is_empty.top.items ≡ on_top content (among_of status hold) = elim c.if-is_empty.branch [
      | then-is_empty+in_ok-ids_of+in_ok-top w ↦ (
          let none : c.in_ok-received.received.items ≡ [] = sym c.as_slice.ensures.value ∙ empty_is c.as_slice.result.now (sym c.is_empty.ensures ∙ w.if-is_empty.true) in
          let are : w.in_ok-ids_of.field-0.items ≡ among_of status hold = w.in_ok-ids_of.ensures ∙ ap (map id_of) (w.deref-then-is_empty.ensures.value ∙ kinds ∙ none_received (of_status status hold.resolvers) c.in_ok-received.received.items received none) in
          subst T (sym w.top-is) (w.in_ok-top.ensures content climb (subst I (sym are) (among_inside ids status hold inside)) ∙ ap (on_top content) are))
      | else-is_empty+in_ok-ids_of-2+in_ok-top-2 w ↦ (
          let some : c.in_ok-received.received.items ≡ [] → ⊥ = λ none. some_is_not c.as_slice.result.now (sym c.is_empty.ensures ∙ w.if-is_empty.false) (c.as_slice.ensures.value ∙ none) in
          let are : w.in_ok-ids_of-2.field-0.items ≡ among_of status hold = w.in_ok-ids_of-2.ensures ∙ ap (map id_of) (w.deref-else-is_empty.ensures.value ∙ some_received (of_status status hold.resolvers) c.in_ok-received.received.items received some) in
          subst T (sym w.top-is) (w.in_ok-top-2.ensures content climb (subst I (sym are) (among_inside ids status hold inside)) ∙ ap (on_top content) are))
    ] in
    is ∙ ap greatest_of (c.deref-2.ensures.value ∙ top))
