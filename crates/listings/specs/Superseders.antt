-- No part of what is promised: private contracts cite it. Which of all that is listed supersedes which.
use Rattle.std.specs.Prelude.{◌<◌, ◌↔◌, ℕ, List, Contains, length, slice_index_or}
use Rattle.catalogue.specs.Ids.{Ascend}
use Rattle.requisites.specs.Nodes.{row}
use Rattle.verdicts.specs.Indices.{id_at, AreIndicesOf, RowsAre}
use Rattle.listings.specs.Sights.{Sight, unseen}

-- the ids that the entry at an index supersedes
abbrev pub superseded_at : List Sight → ℕ → List (List ℕ)
superseded_at sights p = (slice_index_or sights p unseen).superseded

-- the entry at an index supersedes an id: its SUP names it
pub record SupersedesAt (sights : List Sight) (p : ℕ) (id : List ℕ) : Type 0 where
  pub within : p < length sights
  pub named : Contains (superseded_at sights p) id

-- some ids have all that are superseded
abbrev pub HaveAll : List Sight → List (List ℕ) → Type 0
HaveAll sights ids = (p : ℕ) (id : List ℕ) → SupersedesAt sights p id → Contains ids id

-- all superseded ids, ascending, and for each the indices of the entries that supersede it
pub record AreTurned (sights : List Sight) (superseded : List (List ℕ)) (above : List (List ℕ)) : Type 0 where
  pub ascend : Ascend superseded
  pub each : (q p : ℕ) → q < length superseded → Contains (row above q) p ↔ SupersedesAt sights p (id_at superseded q)
  pub whole : HaveAll sights superseded

-- for each entry the indices of the ids that it supersedes
abbrev pub AreBelow : List Sight → List (List ℕ) → List (List ℕ) → Type 0
AreBelow sights superseded below = RowsAre (λ p indices. AreIndicesOf superseded (superseded_at sights p) indices) (length sights) below

-- the SUP of all that is listed, both ways
pub record AreSuperseders (sights : List Sight) (superseded : List (List ℕ)) (below above : List (List ℕ)) : Type 0 where
  pub below_are : AreBelow sights superseded below
  pub turned : AreTurned sights superseded above

-- the indices are those of some ids, each of which has one
pub record AreIndicesOfAll (members : List (List ℕ)) (ids : List (List ℕ)) (indices : List ℕ) : Type 0 where
  pub are : AreIndicesOf members ids indices
  pub all : (id : List ℕ) → Contains ids id → Contains members id
