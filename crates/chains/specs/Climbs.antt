-- No part of what is promised: private contracts cite it. The SYSMODs that supersede some ids, directly or through others,
-- by index.
use Rattle.std.specs.Prelude.{◌≡◌, ◌<◌, ◌≤◌, ◌↔◌, ◌++◌, ℕ, Bool, true, false, List, Option, Some, None, Contains, IfNone, IfSome, filter, is_some, length, map, slice_index, take}
use Rattle.zone_lists.specs.declared.zones.ZoneRow.{ZoneRow}
use Rattle.catalogue.specs.Content.{Content, IsInOrder, superseders}
use Rattle.catalogue.specs.Ids.{Ascend}
use Rattle.requisites.specs.Leads.{Leads}
use Rattle.requisites.specs.Nodes.{Links, mark_of}
use Rattle.requisites.specs.Sources.{source_of}
use Rattle.supersede.specs.Giving.{is_candidate, is_there}
use Rattle.verdicts.specs.Indices.{id_at, AreIndexed, IsAt}

-- the ids in the lists are among the ids
pub record AreListed (lists : List (List (List ℕ))) (ids : List (List ℕ)) : Type 0 where
  pub listed : (list : List (List ℕ)) (id : List ℕ) → Contains lists list → Contains list id → Contains ids id

-- by index, the SYSMODs that supersede each of the ids directly; they are among the ids
pub record AreAbove (content : Content) (ids : List (List ℕ)) (above : List (List ℕ)) : Type 0 where
  pub indexed : AreIndexed ids (map (superseders content) ids) above
  pub whole : (id other : List ℕ) → Contains ids id → Contains (superseders content id) other → Contains ids other

-- an id at a marked index that is another one or supersedes it, directly or through others
pub record IsMarkedAbove (ids : List (List ℕ)) (above : List (List ℕ)) (marks : List Bool) (index : ℕ) (id : List ℕ) : Type 0 where
  pub own : ℕ
  pub within : own < length ids
  pub is : id_at ids own ≡ id
  pub marked : mark_of marks own ≡ true
  pub leads : Leads (Links above (length ids)) index own

-- from an index the marked ids above it; from no index nothing
abbrev pub AreFrom : List (List ℕ) → List (List ℕ) → List Bool → Option ℕ → Option (List (List ℕ)) → Type 0
AreFrom ids above marks None None = Unit {0}
AreFrom ids above marks None (Some found) = ⊥
AreFrom ids above marks (Some index) None = ⊥
AreFrom ids above marks (Some index) (Some found) = Ascend found × ((giver : List ℕ) → Contains found giver ↔ IsMarkedAbove ids above marks index giver)

-- the answer for an id that is among them and isn't there: the marked ids above it
pub record AreAbsent (ids : List (List ℕ)) (above : List (List ℕ)) (there candidates : List Bool) (id : List ℕ) (found : List (List ℕ)) : Type 0 where
  pub index : ℕ
  pub at : IsAt ids id index
  pub absent : mark_of there index ≡ false
  pub ascend : Ascend found
  pub each : (giver : List ℕ) → Contains found giver ↔ IsMarkedAbove ids above candidates index giver

-- the answer for an id: nothing if it is there, and else the marked ids above it
pub record IsAnswer (ids : List (List ℕ)) (above : List (List ℕ)) (there candidates : List Bool) (id : List ℕ) (found : Option (List (List ℕ))) : Type 0 where
  pub none : IfNone found ((p : ℕ) → IsAt ids id p → mark_of there p ≡ true)
  pub some : IfSome found (AreAbsent ids above there candidates id)

-- the indices of a row that have a source
abbrev pub with_source : List (Option ℕ) → List ℕ → List ℕ
with_source sources indices = filter (λ q. is_some (source_of sources q)) indices

-- all that is found of what supersedes some ids: which of them are there, and the candidates above those of the ids asked
-- for that aren't
pub record IsFound (content : Content) (rows : List ZoneRow) (asked ids : List (List ℕ)) (above : List (List ℕ)) (there candidates : List Bool) : Type 0 where
  pub ordered : IsInOrder content
  pub are : AreAbove content ids above
  pub members : (id : List ℕ) → Contains asked id → Contains ids id
  pub there_are : (p : ℕ) → p < length ids → mark_of there p ≡ is_there content rows (id_at ids p)
  pub candidates_are : (p q : ℕ) → p < length ids → Contains asked (id_at ids p) → mark_of there p ≡ false → Leads (Links above (length ids)) p q
      → mark_of candidates q ≡ is_candidate content rows (id_at ids q)

-- ---- walks: an index has the number of the last walk that came to it

-- the indices of a row, each one of n, to which walk number `turn` has come
pub record AreTaken (turn : ℕ) (row seen seen' order order' : List ℕ) : Type 0 where
  pub more : List ℕ
  pub goes_on : order' ≡ order ++ more
  pub drawn : (q : ℕ) → Contains more q → Contains row q
  pub indexed : (q : ℕ) → Contains more q → q < length seen
  pub marked : ((q : ℕ) → slice_index seen q ≡ turn → Contains order q) → (q : ℕ) → slice_index seen' q ≡ turn → Contains order' q
  pub whole : (q : ℕ) → Contains row q → q < length seen → slice_index seen' q ≡ turn
  pub stays : (q : ℕ) → slice_index seen q ≡ turn → slice_index seen' q ≡ turn
  pub bound : ((q : ℕ) → slice_index seen q ≤ turn) → (q : ℕ) → slice_index seen' q ≤ turn
  pub len : length seen' ≡ length seen

-- walk number `turn` has come from an index to those in the order, and has looked at the rows of those before an index of it
pub record IsWalking (rows : List (List ℕ)) (n start turn : ℕ) (seen order : List ℕ) (at : ℕ) : Type 0 where
  pub begun : Contains order start
  pub marked : (q : ℕ) → slice_index seen q ≡ turn → Contains order q
  pub closed : (p q : ℕ) → Contains (take at order) p → Links rows n p q → Contains order q
  pub reached : (q : ℕ) → Contains order q → Leads (Links rows n) start q
  pub bound : (q : ℕ) → slice_index seen q ≤ turn
  pub within : at ≤ length order
  pub len : length seen ≡ n
