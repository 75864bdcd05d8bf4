-- A listing after a publication. It stays right but for the ids that the publication touches. These are marked, and read
-- anew before it is used.
use Rattle.std.specs.Prelude.{◌≡◌, ◌<◌, ℕ, List, Option, Contains, IfSome, filter, is_some, length, not, slice_index_or}
use Rattle.std.specs.Borrow.{Bor}
use Rattle.catalogue.specs.Content.{Content, ids_of}
use Rattle.catalogue.specs.Ids.{Ascend}
use Rattle.catalogue.specs.Seen.{SeenLists}
use Rattle.catalogue.specs.Touched.{AgreeOutside}
use Rattle.supersede.specs.Reach.{has}
use Rattle.verdicts.specs.Indices.{id_at}
use Rattle.listings.specs.Sights.{IsListing, ListingLists, Sight, sight_from, unseen}

-- A listing is that of a content but for some marked ids: it is that of an earlier content, which says the same outside
-- them.
pub record IsListingBut (content : Content) (marks : List (List ℕ)) (listing : ListingLists) : Type 0 where
  pub before : Content
  pub is : IsListing before listing
  pub same : AgreeOutside marks before content
  pub was_in_order : Ascend (ids_of before)
  pub in_order : Ascend (ids_of content)

-- the listing that is at hand, if one is, is that of a content but for some marked ids
abbrev pub IsAtHand : Content → Option (Bor ListingLists) → List (List ℕ) → Type 0
IsAtHand content listing marks = IfSome listing (λ listing. IsListingBut content marks listing.now)

-- a listing says what a content has of an id: it is that of the content but for some marked ids, and this is none of them
pub record SaysOf (content : Content) (id : List ℕ) (listing : ListingLists) : Type 0 where
  pub marks : List (List ℕ)
  pub but : IsListingBut content marks listing
  pub unmarked : Contains marks id → ⊥

-- what is read of each listed id is what f says of it, unless it is marked
abbrev pub SaysBut : (List ℕ → Sight) → List (List ℕ) → List (List ℕ) → List Sight → Type 0
SaysBut f marks ids sights = (p : ℕ) → p < length ids → (Contains marks (id_at ids p) → ⊥) → slice_index_or sights p unseen ≡ f (id_at ids p)

-- the marked ones of some ids
abbrev pub marked : List (List ℕ) → List (List ℕ) → List (List ℕ)
marked marks ids = filter (has marks) ids

-- the others
abbrev pub unmarked : List (List ℕ) → List (List ℕ) → List (List ℕ)
unmarked marks ids = filter (λ id. not (has marks id)) ids

-- what was read of an id, as it is listed
abbrev pub sight_seen : SeenLists → Sight
sight_seen seen = sight_from seen.sysmod seen.holds

-- what was read of those that are catalogued
abbrev pub catalogued_among : List SeenLists → List SeenLists
catalogued_among read = filter (λ seen. is_some seen.sysmod) read

-- the ids of which a record was found
abbrev pub found_among : (List ℕ → SeenLists) → List (List ℕ) → List (List ℕ)
found_among f ids = filter (λ id. is_some (f id).sysmod) ids
