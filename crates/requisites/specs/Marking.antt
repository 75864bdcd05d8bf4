-- No part of what is promised: private contracts cite it. The nodes that a walk by picks has marked so far.
use Rattle.std.specs.Prelude.{◌≡◌, ◌<◌, ◌≤◌, ◌++◌, ℕ, Bool, List, length, Contains, take}
use Rattle.requisites.specs.Nodes.{IsMarked, world}
use Rattle.requisites.specs.World.{IsChosenByAny, IsGood, PicksFor}
use Rattle.requisites.specs.declared.nodes.Nodes.{Nodes}

-- each node of a row is marked now; those that had no mark are put to the order, and nothing else is
pub record AreMarked (row : List ℕ) (marks marks' : List Bool) (order order' : List ℕ) : Type 0 where
  pub more : List ℕ
  pub goes_on : order' ≡ order ++ more
  pub drawn : (q : ℕ) → Contains more q → Contains row q
  pub put : ((q : ℕ) → IsMarked marks q → Contains order q) → (q : ℕ) → IsMarked marks' q → Contains order' q
  pub marked : ((q : ℕ) → Contains order q → IsMarked marks q) → (q : ℕ) → Contains order' q → IsMarked marks' q
  pub whole : (q : ℕ) → Contains row q → q < length marks → IsMarked marks' q
  pub stays : (q : ℕ) → IsMarked marks q → IsMarked marks' q
  pub len : length marks' ≡ length marks

-- the order has the good ones of some nodes, and nodes to which picks lead from there; it has all picks of those before an
-- index
pub record IsPicking (nodes : Nodes) (starts : List ℕ) (marks : List Bool) (order : List ℕ) (at : ℕ) : Type 0 where
  pub begun : (x : ℕ) → Contains starts x → IsGood (world nodes) x → Contains order x
  pub put : (q : ℕ) → IsMarked marks q → Contains order q
  pub marked : (q : ℕ) → Contains order q → IsMarked marks q
  pub followed : (p z : ℕ) → Contains (take at order) p → PicksFor (world nodes) p z → Contains order z
  pub chosen : (q : ℕ) → Contains order q → IsChosenByAny (world nodes) starts q
  pub within : at ≤ length order
  pub len : length marks ≡ length nodes.candidates.items

-- just the members of the chosen plans of some nodes are marked
pub record AreChosenMarks (nodes : Nodes) (starts : List ℕ) (marks : List Bool) : Type 0 where
  pub chosen : (q : ℕ) → IsMarked marks q → IsChosenByAny (world nodes) starts q
  pub whole : (q : ℕ) → IsChosenByAny (world nodes) starts q → IsMarked marks q
