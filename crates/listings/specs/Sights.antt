-- What is read of a SYSMOD, whatever the zone: whether it is catalogued, the functions that it is for, what it needs in every zone, its
-- requisites under a condition, and what it supersedes; and of all that is catalogued.
use Rattle.std.specs.Prelude.{◌≡◌, ◌++◌, ◌==◌, ℕ, Bool, false, List, [], Option, filter, is_some, map}
use Rattle.std.specs.List.{Contains}
use Rattle.holddata.specs.HoldKey.{kind_order}
use Rattle.holddata.specs.declared.hold.Hold.{Hold}
use Rattle.holddata.specs.declared.key.Kind.TheVariants.{ErrorHold}
use Rattle.zone_lists.specs.declared.zones.ZoneRow.{ZoneRow}
use Rattle.catalogue.specs.Content.{Content, holds_on, ids_of, record_of}
use Rattle.catalogue.specs.declared.conditional.CondNeed.{CondNeed}
use Rattle.catalogue.specs.declared.sysmod.Sysmod.{Sysmod}
use Rattle.supersede.specs.Giving.{conds_of, each_need, fmids_of, needs_where, requisites_of, sup_of}

pub record Sight : Type 0 where
  pub catalogued : Bool
  pub fmids : List (List ℕ)
  pub needs : List (List ℕ)
  pub conds : List CondNeed
  pub superseded : List (List ℕ)

-- nothing is seen of an id that isn't catalogued
abbrev pub unseen : Sight
unseen = record { catalogued = false; fmids = []; needs = []; conds = []; superseded = [] }

-- the reasons of the ERROR holds among some
abbrev pub reasons_in : List Hold → List (List ℕ)
reasons_in holds = map (λ hold. hold.key.reason) (filter (λ hold. kind_order hold.key.kind == kind_order ErrorHold) holds)

-- what is seen, by a record and the holds
abbrev pub sight_from : Option Sysmod → List Hold → Sight
sight_from found holds = record {
  catalogued = is_some found;
  fmids = fmids_of found;
  needs = requisites_of found ++ reasons_in holds;
  conds = conds_of found;
  superseded = sup_of found;
}

-- what a content says of an id
abbrev pub sight_of : Content → List ℕ → Sight
sight_of content id = sight_from (record_of content id) (holds_on content id)

-- all ids that are named as a need, whatever the zone
abbrev pub all_needs : Sight → List (List ℕ)
all_needs sight = sight.needs ++ each_need sight.conds

-- the needs in a zone
abbrev pub needs_seen : List ZoneRow → Sight → List (List ℕ)
needs_seen rows sight = sight.needs ++ needs_where rows sight.conds

-- some ids, with what is read of each
pub record ListingLists : Type 0 where
  pub ids : List (List ℕ)
  pub sights : List Sight

-- they are all that a content has
pub record IsListing (content : Content) (listing : ListingLists) : Type 0 where
  pub ids : listing.ids ≡ ids_of content
  pub sights : listing.sights ≡ map (sight_of content) listing.ids

-- it is for no function and supersedes nothing; then nobody asks for its needs
pub record IsBare (sight : Sight) : Type 0 where
  pub fmids : sight.fmids ≡ []
  pub superseded : sight.superseded ≡ []

-- what is seen of an id in a list: what f says, or nothing that counts if the list doesn't have it
pub record IsSeen (f : List ℕ → Sight) (ids : List (List ℕ)) (id : List ℕ) (sight : Sight) : Type 0 where
  pub listed : Contains ids id → sight ≡ f id
  pub unlisted : (Contains ids id → ⊥) → IsBare sight
