-- No part of what is promised: private contracts cite it. What a zone and the catalogue say of members, by what was read of each.
use Rattle.std.specs.Prelude.{◌≡◌, ◌<◌, ◌++◌, ℕ, Bool, List, Contains, length, map, slice_index_or}
use Rattle.std.specs.List.{flat_map, list_any}
use Rattle.zone_lists.specs.Installed.{is_installed}
use Rattle.zone_lists.specs.declared.zones.ZoneRow.{ZoneRow}
use Rattle.catalogue.specs.Content.{Content, ids_of}
use Rattle.catalogue.specs.Ids.{in_order}
use Rattle.verdicts.specs.Indices.{AreIndicesOf, MarksAre, RowsAre}
use Rattle.listings.specs.Sights.{Sight, all_needs, needs_seen, sight_of, unseen}

-- all that is catalogued, and all that it needs, whatever the zone
abbrev pub members_of : Content → List (List ℕ)
members_of content = in_order (ids_of content ++ flat_map all_needs (map (sight_of content) (ids_of content)))

-- what was read of the member at an index
abbrev pub sight_at : List Sight → ℕ → Sight
sight_at sights p = slice_index_or sights p unseen

-- each member that was read: whether it may be installed in a zone, its needs there, and the ids that it supersedes
pub record AreRowsOf (rows : List ZoneRow) (members : List (List ℕ)) (sights : List Sight) (candidates : List Bool) (needs supersedes : List (List ℕ)) : Type 0 where
  pub candidates_are : MarksAre (λ p mark. mark ≡ list_any (λ fmid. is_installed rows fmid) (sight_at sights p).fmids) (length sights) candidates
  pub needs_are : RowsAre (λ p indices. AreIndicesOf members (needs_seen rows (sight_at sights p)) indices) (length sights) needs
  pub supersedes_are : RowsAre (λ p indices. AreIndicesOf members (sight_at sights p).superseded indices) (length sights) supersedes

-- marks and needs are those of all members, and name no other indices
pub record AreRowsWithin (members : List (List ℕ)) (candidates : List Bool) (needs : List (List ℕ)) : Type 0 where
  pub len : length candidates ≡ length members
  pub needs_are : RowsAre (λ p indices. (q : ℕ) → Contains indices q → q < length members) (length members) needs
