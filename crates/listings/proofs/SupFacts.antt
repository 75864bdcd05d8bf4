-- What each member supersedes, by what a listing has of it.
use Rattle.std.proofs.Common.{◌≡◌, ◌∙◌, ℕ, ◌+◌, ◌<◌, List, [], ◌∷◌, ◌++◌, length, map, Option, Some, None, refl, sym, ap, subst, arith}
use Rattle.std.specs.List.{filter_map}
use Rattle.std.proofs.lemmas.List.{get_or-map, length-map}
use Rattle.catalogue.specs.Ids.{Ascend}
use Rattle.requisites.specs.Nodes.{row}
use Rattle.verdicts.specs.Indices.{id_at, AreIndicesOf, IsAt}
use Rattle.listings.specs.SeenIndices.{IsSupSeen, SeenAs}
use Rattle.listings.specs.Places.{ArePlaces, IsPlace, place_at, row_at}
use Rattle.listings.specs.Sights.{Sight, unseen}
use Rattle.listings.specs.Superseders.{AreSuperseders, superseded_at}
use Rattle.verdicts.proofs.IndexFacts.{indexed_inside, indices_none, rows_more}
use Rattle.listings.proofs.PlaceFacts.{moved_indices}

module _ (f : List ℕ → Sight) (ids members superseded below above : List (List ℕ)) (places : List (Option ℕ)) (ascend : Ascend members) (are : AreSuperseders (map f ids) superseded below above)
    (stand : ArePlaces superseded members (length superseded) places) where
  -- what an id supersedes that stands at an index among all that are listed
  sup_there : (id : List ℕ) (i : ℕ) → IsAt ids id i → AreIndicesOf members ((f id).superseded) (filter_map (place_at places) (row below i))
  sup_there id i at =
      let within = at.within in
      let as_many = length-map ids f in
      let here : i < length (map f ids) = omega (arith, within, as_many) in
      let is : superseded_at (map f ids) i ≡ (f id).superseded = ap (λ (sight : Sight). sight.superseded) (get_or-map f ids i [] unseen within ∙ ap f at.is) in
      let P : List (List ℕ) → Type 0 = λ l. AreIndicesOf members l (filter_map (place_at places) (row below i)) in
      subst P is (moved_indices superseded members (superseded_at (map f ids) i) places (row below i) ascend stand (are.below_are.each i here)
      (λ x named. are.turned.whole i x (record { within = here; named = named })))

  sup_moved : (id : List ℕ) (place : Option ℕ) → IsPlace ids id place → SeenAs f ids id (λ sight. AreIndicesOf members sight.superseded (filter_map (place_at places) (row_at below place)))
  sup_moved id (Some i) at = record {
    sight = f id;
    seen = record { listed = λ inside. refl; unlisted = λ outside. absurd (outside (indexed_inside ids id i at)) };
    so = sup_there id i at;
  }
  sup_moved id None nowhere = record {
    sight = unseen;
    seen = record { listed = λ inside. absurd (nowhere inside); unlisted = λ outside. record { fmids = refl; superseded = refl } };
    so = indices_none members;
  }

  -- one member more
  pub moved_on : (i : ℕ) (place : Option ℕ) (old new : List (List ℕ)) (indices : List ℕ) → IsPlace ids (id_at members i) place → indices ≡ filter_map (place_at places) (row_at below place)
      → IsSupSeen f ids members i old → new ≡ old ++ indices ∷ [] → IsSupSeen f ids members (i + 1) new
  moved_on i place old new indices at is was now =
      let P : List ℕ → Type 0 = λ l. SeenAs f ids (id_at members i) (λ sight. AreIndicesOf members sight.superseded l) in
      rows_more (λ p l. SeenAs f ids (id_at members p) (λ s. AreIndicesOf members s.superseded l)) i old new indices was (subst P (sym is) (sup_moved (id_at members i) place at)) now

-- ---- as the call that makes a cut has it

pub placed_as : (ids members seen : List (List ℕ)) (listed seen_listed : List (Option ℕ)) → seen ≡ members → seen_listed ≡ listed → ArePlaces members ids (length members) listed → ArePlaces seen ids (length seen) seen_listed
placed_as ids members seen listed seen_listed same same_listed stand =
    let P : List (List ℕ) → Type 0 = λ l. ArePlaces l ids (length l) listed in
    let Q : List (Option ℕ) → Type 0 = λ l. ArePlaces seen ids (length seen) l in
    subst Q (sym same_listed) (subst P (sym same) stand)

pub superseded_as : (f : List ℕ → Sight) (ids members seen rows seen_rows : List (List ℕ)) → seen ≡ members → seen_rows ≡ rows → IsSupSeen f ids seen (length seen) rows → IsSupSeen f ids members (length members) seen_rows
superseded_as f ids members seen rows seen_rows same same_rows are =
    let P : List (List ℕ) → Type 0 = λ l. IsSupSeen f ids l (length l) rows in
    let Q : List (List ℕ) → Type 0 = λ l. IsSupSeen f ids members (length members) l in
    subst Q (sym same_rows) (subst P same are)
