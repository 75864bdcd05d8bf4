-- No part of what is promised: private contracts cite it. Links the other way round, while rows are filled with them.
use Rattle.std.specs.Prelude.{◌≡◌, ◌<◌, ◌≤◌, ◌⊎◌, ◌+◌, ℕ, List, [], ◌∷◌, cond, drop, eqb, length, slice_index, sum_by, Contains}
use Rattle.requisites.specs.Nodes.{row}

-- a node that is new in the row of a listed one
pub record IsAdded (listed : List ℕ) (node n q p : ℕ) : Type 0 where
  pub is : node ≡ p
  pub within : q < n
  pub inside : Contains listed q

-- each row keeps its entries, the rows of the listed nodes get the node too, and no row gets any other
pub record RowAdded (listed : List ℕ) (node : ℕ) (old new : List (List ℕ)) : Type 0 where
  pub len : length new ≡ length old
  pub keeps : (q p : ℕ) → Contains (row old q) p → Contains (row new q) p
  pub added : (q : ℕ) → Contains listed q → q < length old → Contains (row new q) node
  pub only : (q p : ℕ) → Contains (row new q) p → Contains (row old q) p ⊎ IsAdded listed node (length old) q p

-- the number of times that a node is listed
abbrev pub times : List ℕ → ℕ → ℕ
times listed q = sum_by (λ b. cond (eqb b q) 1 0) listed

-- the number of times that it is in all rows
abbrev pub times_in : List (List ℕ) → ℕ → ℕ
times_in lists q = sum_by (λ listed. times listed q) lists

-- the entries of rows after those that are left to fill
abbrev pub filled : List ℕ → List (List ℕ) → List (List ℕ)
filled [] rows = []
filled (places ∷ left) [] = []
filled (places ∷ left) (row ∷ rows) = drop places row ∷ filled left rows

-- each row is as long at least as the number of its entries left to fill
pub record HavePlaces (left : List ℕ) (rows : List (List ℕ)) : Type 0 where
  pub as_many : length left ≡ length rows
  pub within : (q : ℕ) → slice_index left q ≤ length (row rows q)

-- each that is listed has taken an entry
pub record AreTaken (listed old new : List ℕ) : Type 0 where
  pub len : length new ≡ length old
  pub taken : (q : ℕ) → q < length old → slice_index new q + times listed q ≡ slice_index old q
