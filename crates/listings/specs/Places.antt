-- No part of what is promised: private contracts cite it. The places of one list's ids in another.
use Rattle.std.specs.Prelude.{◌≡◌, ◌<◌, ℕ, List, [], Option, Some, None, Contains, length, slice_index_or}
use Rattle.std.specs.declared.cmp.Ordering.TheVariants.{Less}
use Rattle.catalogue.specs.Ids.{id_cmp}
use Rattle.requisites.specs.Nodes.{row}
use Rattle.verdicts.specs.Indices.{id_at, IsAt}

-- the place that is kept at an index, if one is
abbrev pub place_at : List (Option ℕ) → ℕ → Option ℕ
place_at places p = slice_index_or places p None

-- the row that is kept at a place, if there is one
abbrev pub row_at : List (List ℕ) → Option ℕ → List ℕ
row_at rows (Some index) = row rows index
row_at rows None = []

-- the index of an id, or none if it stands nowhere
abbrev pub IsPlace : List (List ℕ) → List ℕ → Option ℕ → Type 0
IsPlace ids id (Some index) = IsAt ids id index
IsPlace ids id None = Contains ids id → ⊥

-- the index of each of the first n ids of one list in another
pub record ArePlaces (from to : List (List ℕ)) (n : ℕ) (places : List (Option ℕ)) : Type 0 where
  pub len : length places ≡ n
  pub each : (p : ℕ) → p < n → IsPlace to (id_at from p) (place_at places p)

-- the first n of some ids are less than an id
abbrev pub AreLesser : List (List ℕ) → ℕ → List ℕ → Type 0
AreLesser ids n id = (q : ℕ) → q < n → id_cmp (id_at ids q) id ≡ Less
