use Rattle.std.proofs.Common.{◌≡◌, ◌∙◌, ℕ, List, map, sym, subst}
use Rattle.std.specs.List.{Contains, flat_map}
use Rattle.lemmas.proofs.ListFacts.{flat_inside, map_inside}
use Rattle.catalogue.proofs.IdFacts.{in_order_has}
use Rattle.catalogue.proofs.SourceFacts.{told_so}
use Rattle.reports.specs.Holds.{HoldLists}
use Rattle.reports.specs.declared.holds.Resolver.{Resolver}
use Rattle.zone_plans.specs.Plans.{resolvers_named}
use Rattle.zone_plans.proofs.placing.place_all.Goals as goal

pub returns-clause-placed : goal.returns-clause-placed
returns-clause-placed g c =
    told_so c.in_ok-climb.ensures.climb (λ content climb.
    let holds = c.args.holds.now in
    let ids_of : HoldLists → List (List ℕ) = λ (hold : HoldLists). map (λ (r : Resolver). r.id) hold.resolvers in
    let named : c.deref.result.now ≡ resolvers_named holds = c.deref.ensures.value ∙ c.in_ok-ids.ensures.ids in
    c.in_ok-placed_by.ensures content climb (λ hold inside resolver listed.
    let K : List (List ℕ) → Type 0 = λ l. Contains l resolver.id in
    c.in_ok-climb.ensures.starts resolver.id (subst K (sym named) ((in_order_has (flat_map ids_of holds) resolver.id).1
    (flat_inside ids_of holds hold resolver.id inside (map_inside (λ (r : Resolver). r.id) hold.resolvers resolver listed))))))
