-- Ids by their indices in a list that ascends, and what is listed for each index. Public contracts cite it.
use Rattle.std.specs.Prelude.{◌≡◌, ◌<◌, ℕ, Bool, List, [], length, slice_index_or, Contains}
use Rattle.requisites.specs.Nodes.{mark_of, row}

-- the id at an index
abbrev pub id_at : List (List ℕ) → ℕ → List ℕ
id_at members p = slice_index_or members p []

-- an index of an id
pub record IndexOf (members : List (List ℕ)) (id : List ℕ) : Type 0 where
  pub index : ℕ
  pub within : index < length members
  pub is : id_at members index ≡ id

-- an id is at an index
pub record IsAt (members : List (List ℕ)) (id : List ℕ) (index : ℕ) : Type 0 where
  pub within : index < length members
  pub is : id_at members index ≡ id

-- the indices are those of the ids that are members
pub record AreIndicesOf (members : List (List ℕ)) (ids : List (List ℕ)) (indices : List ℕ) : Type 0 where
  pub within : (q : ℕ) → Contains indices q → q < length members
  pub listed : (q : ℕ) → Contains indices q → Contains ids (id_at members q)
  pub whole : (q : ℕ) → q < length members → Contains ids (id_at members q) → Contains indices q

-- there are n rows, and P says of each which nodes it has
pub record RowsAre (P : ℕ → List ℕ → Type 0) (n : ℕ) (rows : List (List ℕ)) : Type 0 where
  pub len : length rows ≡ n
  pub each : (p : ℕ) → p < n → P p (row rows p)

-- the list at an index of a list of lists
abbrev pub list_at : List (List (List ℕ)) → ℕ → List (List ℕ)
list_at lists p = slice_index_or lists p []

-- for each of the lists a row has the indices of its ids
abbrev pub AreIndexed : List (List ℕ) → List (List (List ℕ)) → List (List ℕ) → Type 0
AreIndexed ids lists rows = RowsAre (λ p indices. AreIndicesOf ids (list_at lists p) indices) (length ids) rows

-- there are n marks, and P says of each what it is
pub record MarksAre (P : ℕ → Bool → Type 0) (n : ℕ) (marks : List Bool) : Type 0 where
  pub len : length marks ≡ n
  pub each : (p : ℕ) → p < n → P p (mark_of marks p)
