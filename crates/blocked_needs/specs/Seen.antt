-- No part of what is promised: private contracts cite it. The SYSMODs that were looked at so far.
use Rattle.std.specs.Prelude.{◌≡◌, ◌++◌, ℕ, List, [], ◌∷◌, Option, Some, map, Contains}
use Rattle.zone_lists.specs.declared.zones.ZoneRow.{ZoneRow}
use Rattle.catalogue.specs.Content.{Content}
use Rattle.catalogue.specs.Ids.{Ascend}
use Rattle.requisites.specs.Leads.{Leads}
use Rattle.blocked_needs.specs.Blocked.{blocked_at, next_of}
use Rattle.blocked_needs.specs.declared.blocked.BlockedNeed.{BlockedNeed}

-- one would give what blocks the other
pub record IsNext (content : Content) (rows : List ZoneRow) (id next : List ℕ) : Type 0 where
  pub is : next_of content rows id ≡ Some next

-- one is reached from another that was asked for
pub record IsComeTo (content : Content) (rows : List ZoneRow) (starts : List (List ℕ)) (id : List ℕ) : Type 0 where
  pub start : List ℕ
  pub listed : Contains starts start
  pub leads : Leads (IsNext content rows) start id

-- an id with what blocks it
abbrev pub entry_of : Content → List ZoneRow → List ℕ → List ℕ × Option BlockedNeed
entry_of content rows id = (id, blocked_at content rows id)

-- all that are reached from some SYSMODs, each with what blocks it
pub record AreSeen (content : Content) (rows : List ZoneRow) (starts : List (List ℕ)) (entries : List (List ℕ × Option BlockedNeed)) : Type 0 where
  pub ids : List (List ℕ)
  pub ascend : Ascend ids
  pub are : entries ≡ map (entry_of content rows) ids
  pub begun : (id : List ℕ) → Contains starts id → Contains ids id
  pub closed : (id next : List ℕ) → Contains ids id → next_of content rows id ≡ Some next → Contains ids next
  pub come_to : (id : List ℕ) → Contains ids id → IsComeTo content rows starts id

-- those that are reached from one more are added
abbrev pub HasFollowed : Content → List ZoneRow → List ℕ → List (List ℕ × Option BlockedNeed) → List (List ℕ × Option BlockedNeed) → Type 0
HasFollowed content rows start old new =
    (starts : List (List ℕ)) → AreSeen content rows starts old → AreSeen content rows (starts ++ start ∷ []) new
