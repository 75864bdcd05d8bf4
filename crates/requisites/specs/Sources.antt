-- The marked node from which each node is reached first.
use Rattle.std.specs.Prelude.{◌≡◌, ◌≤◌, ℕ, List, Bool, Option, Some, None, length, slice_index_or}
use Rattle.requisites.specs.Leads.{Leads}
use Rattle.requisites.specs.Nodes.{IsMarked, Links}

-- the source of a node, if it has one
abbrev pub source_of : List (Option ℕ) → ℕ → Option ℕ
source_of sources q = slice_index_or sources q None

pub record HasSource (sources : List (Option ℕ)) (q : ℕ) : Type 0 where
  pub source : ℕ
  pub is : source_of sources q ≡ Some source

-- s is the least marked node from which a list leads to q
pub record IsLeastSource (lists : List (List ℕ)) (marks : List Bool) (n q s : ℕ) : Type 0 where
  pub marked : IsMarked marks s
  pub leads : Leads (Links lists n) s q
  pub least : (m : ℕ) → IsMarked marks m → Leads (Links lists n) m q → s ≤ m

-- each node's source is the least marked node that leads to it; it has none if no marked node does
pub record AreLeastSources (lists : List (List ℕ)) (marks : List Bool) (sources : List (Option ℕ)) : Type 0 where
  pub reached : (q s : ℕ) → source_of sources q ≡ Some s → IsLeastSource lists marks (length marks) q s
  pub unreached : (q m : ℕ) → source_of sources q ≡ None → IsMarked marks m → Leads (Links lists (length marks)) m q → ⊥
