-- No part of what is promised: private contracts cite it. The rows of a listing by the indices of its members, whatever the
-- zone.
use Rattle.std.specs.Prelude.{◌≡◌, ℕ, List, Option, Some, None, Contains, length, map, slice_index_or}
use Rattle.std.specs.List.{flat_map}
use Rattle.catalogue.specs.Ids.{Ascend}
use Rattle.verdicts.specs.Indices.{AreIndicesOf, RowsAre}
use Rattle.listings.specs.SeenIndices.{IsSupSeen}
use Rattle.listings.specs.Places.{ArePlaces, place_at}
use Rattle.listings.specs.Sights.{Sight, all_needs, unseen}

-- the entry at a place among the listed ids; unseen if there is no place
abbrev pub sight_placed : List Sight → Option ℕ → Sight
sight_placed sights (Some index) = slice_index_or sights index unseen
sight_placed sights None = unseen

-- the needs of each member in every zone, by index
abbrev pub AreAlwaysNeeds : List Sight → List (List ℕ) → List (Option ℕ) → List (List ℕ) → Type 0
AreAlwaysNeeds sights members listed needs =
    RowsAre (λ p indices. AreIndicesOf members (sight_placed sights (place_at listed p)).needs indices) (length listed) needs

-- all that is listed and all that it needs, in order; the index of each of these among the listed ids; by index the needs of
-- each in every zone, and what it supersedes
pub record AreListedRows (ids : List (List ℕ)) (sights : List Sight) (members : List (List ℕ)) (listed : List (Option ℕ)) (needs supersedes : List (List ℕ)) : Type 0 where
  pub ascend : Ascend members
  pub ids_inside : (id : List ℕ) → Contains ids id → Contains members id
  pub needs_inside : (id : List ℕ) → Contains (flat_map all_needs sights) id → Contains members id
  pub places : ArePlaces members ids (length members) listed
  pub needs_are : AreAlwaysNeeds sights members listed needs
  pub supersedes_are : (f : List ℕ → Sight) → sights ≡ map f ids → IsSupSeen f ids members (length members) supersedes
