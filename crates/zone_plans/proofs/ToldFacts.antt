-- What is said of the resolvers of a report's holds is so.
use Rattle.std.proofs.Common.{◌≡◌, ℕ, List, map, refl, sym, subst}
use Rattle.std.specs.List.{Contains}
use Rattle.lemmas.proofs.ListFacts.{map_from}
use Rattle.holddata.specs.declared.hold.Hold.{Hold}
use Rattle.zone_lists.specs.declared.zones.ZoneRow.{ZoneRow}
use Rattle.catalogue.specs.Content.{Content}
use Rattle.verdicts.specs.Judge.{status_of}
use Rattle.verdicts.specs.Verdicts.{verdict_of}
use Rattle.reports.specs.Holds.{HoldLists, held_by, resolver_by}
use Rattle.reports.specs.Resolvers.{status_in}
use Rattle.reports.specs.declared.holds.Resolver.{Resolver}
use Rattle.zone_plans.specs.Plans.{AreTold}

pub are_told : (content : Content) (rows : List ZoneRow) (received : List (List ℕ)) (ids : Hold → List (List ℕ)) (holds : List Hold)
    → AreTold content rows (map (λ hold. held_by (status_in content rows) received hold (ids hold)) holds)
are_told content rows received ids holds = λ held resolver inside listed.
    let of : Hold → HoldLists = λ hold. held_by (status_in content rows) received hold (ids hold) in
    let image = map_from of holds held inside in
    let P : HoldLists → Type 0 = λ h. Contains h.resolvers resolver in
    let made = map_from (resolver_by (status_in content rows) received) (ids image.from) resolver (subst P (sym image.is) listed) in
    let Q : Resolver → Type 0 = λ r. r.status ≡ status_of (verdict_of content rows r.id) in
    subst Q made.is refl
