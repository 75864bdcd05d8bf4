-- What gives what among what was gathered, by index.
use Rattle.std.proofs.Common.{◌≡◌, ◌∙◌, ◌<◌, ℕ, List, [], ◌∷◌, length, map, get_or, sym, ap, subst}
use Rattle.std.specs.Prelude.{◌↔◌}
use Rattle.std.specs.List.{AllByRecursion, Contains, filter}
use Rattle.std.specs.List.Sorted.{IsStrictlySortedBy}
use Rattle.std.specs.Ordering.{nat_cmp}
use Rattle.std.specs.declared.cmp.Ordering.TheVariants.{Less}
use Rattle.std.proofs.lemmas.Cmp.{ranked}
use Rattle.std.proofs.lemmas.List.Kept.{IsStrictlySortedBy-filter}
use Rattle.lemmas.proofs.ListFacts.{first_inside, kept_from, kept_inside, map_from, map_inside, rest_inside}
use Rattle.catalogue.specs.Ids.{Ascend, id_cmp}
use Rattle.requisites.specs.Leads.{Leads}
use Rattle.requisites.proofs.LeadsFacts.{leads_closed}
use Rattle.verdicts.specs.Indices.{id_at, AreIndexed, AreIndicesOf, list_at}
use Rattle.listings.specs.Links.{IsAbove, IsGiverAt, is_catalogued_at}
use Rattle.listings.specs.declared.gathered.Gathered.{Gathered}
use Rattle.verdicts.proofs.IndexFacts.{below_at}
use Rattle.std.proofs.lemmas.List.{get_or-map}

-- the indices of what was read of the id at an index
pub indexed_here : (f : Gathered → List (List ℕ)) (all : List Gathered) (index : ℕ) (g : Gathered) (ids list : List (List ℕ)) (indices : List ℕ) → index < length all → g ≡ get_or all index g → list ≡ f g
    → AreIndicesOf ids list indices → AreIndicesOf ids (list_at (map f all) index) indices
indexed_here f all index g ids list indices below at is are =
    let P : List (List ℕ) → Type 0 = λ l. AreIndicesOf ids l indices in
    subst P (is ∙ ap f at ∙ sym (get_or-map f all index g [] below)) are

-- ---- ids at ascending indices ascend

below_all : (ids : List (List ℕ)) (q : ℕ) (qs : List ℕ) → Ascend ids → AllByRecursion (λ y. nat_cmp q y ≡ Less) qs → ((p : ℕ) → Contains qs p → p < length ids) → AllByRecursion (λ y. id_cmp (id_at ids q) y ≡ Less) (map (id_at ids) qs)
below_all ids q [] ascend above within = tt
below_all ids q (y ∷ ys) ascend above within = (
  below_at ids q y [] ascend (ranked q y Less (sym above.0)) (within y (first_inside y ys)),
  below_all ids q ys ascend above.1 (λ p inside. within p (rest_inside y p ys inside)),
)

ids_up : (ids : List (List ℕ)) (indices : List ℕ) → Ascend ids → IsStrictlySortedBy nat_cmp indices → ((p : ℕ) → Contains indices p → p < length ids) → Ascend (map (id_at ids) indices)
unfolding IsStrictlySortedBy
ids_up ids [] ascend sorted within = tt
ids_up ids (q ∷ qs) ascend sorted within = (
  below_all ids q qs ascend sorted.0 (λ p inside. within p (rest_inside q p qs inside)),
  ids_up ids qs ascend sorted.1 (λ p inside. within p (rest_inside q p qs inside)),
)

-- ---- givers

module _ (ids : List (List ℕ)) (all : List Gathered) (above : List (List ℕ)) (index : ℕ) (ascend : Ascend ids) (within : index < length ids) (indexed : AreIndexed ids (map (λ g. g.above) all) above)
    (indices : List ℕ) (sorted : IsStrictlySortedBy nat_cmp indices) (each : (q : ℕ) → Contains indices q ↔ Leads (IsAbove above) index q) where
  chosen_within : (q : ℕ) → Contains (filter (is_catalogued_at all) indices) q → q < length ids
  chosen_within q inside =
      leads_closed (λ p. p < length ids) (λ p r here step. (indexed.each p here).within r step) within ((each q).0 (kept_from (is_catalogued_at all) indices q inside).member)

  pub indices_inside : (q : ℕ) (list : List ℕ) → list ≡ filter (is_catalogued_at all) indices → Contains list q → q < length ids
  indices_inside q list are inside = let P : List ℕ → Type 0 = λ l. Contains l q in chosen_within q (subst P are inside)

  pub givers_up : (givers : List (List ℕ)) → givers ≡ map (id_at ids) (filter (is_catalogued_at all) indices) → Ascend givers
  givers_up givers are =
      subst Ascend (sym are) (ids_up ids (filter (is_catalogued_at all) indices) ascend (IsStrictlySortedBy-filter nat_cmp (is_catalogued_at all) indices sorted) chosen_within)

  pub each_giver : (givers : List (List ℕ)) → givers ≡ map (id_at ids) (filter (is_catalogued_at all) indices) → (id : List ℕ) → Contains givers id ↔ IsGiverAt ids all above index id
  each_giver givers are id = (
    λ inside.
        let L : List (List ℕ) → Type 0 = λ l. Contains l id in
        let image = map_from (id_at ids) (filter (is_catalogued_at all) indices) id (subst L are inside) in
        let kept = kept_from (is_catalogued_at all) indices image.from image.member in
        record { own = image.from; within = chosen_within image.from image.member; is = image.is; catalogued = kept.passes; leads = (each image.from).0 kept.member },
    λ giver.
        let L : List (List ℕ) → Type 0 = λ l. Contains l id in
        let P : List ℕ → Type 0 = λ x. Contains (map (id_at ids) (filter (is_catalogued_at all) indices)) x in
        subst L (sym are)
        (subst P giver.is (map_inside (id_at ids) (filter (is_catalogued_at all) indices) giver.own (kept_inside (is_catalogued_at all) indices giver.own ((each giver.own).1 giver.leads) giver.catalogued))),
  )
