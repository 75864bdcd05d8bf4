-- No part of what is promised: private contracts cite it. Nodes that need one another, in the order of installation.
use Rattle.std.specs.Prelude.{◌≡◌, ◌<◌, ◌≤◌, ◌⊎◌, ◌++◌, ℕ, List, [], ◌∷◌, Bool, false, Option, Some, length, Contains}
use Rattle.requisites.specs.Good.{marked_count}
use Rattle.requisites.specs.Leads.{Leads}
use Rattle.requisites.specs.Nodes.{IsMarked, Links, mark_of, row}
use Rattle.requisites.specs.Sources.{HasSource, source_of}
use Rattle.install_order.specs.Steps.{IsClosed, StandsIn}

-- what may come as a ring after others: it has a node; its nodes are in none of the others; each of their needs is in the
-- ring or in one of the others; and they all need one another, directly or through others
pub record IsNextRing (needs : List (List ℕ)) (n : ℕ) (before : List (List ℕ)) (ring : List ℕ) : Type 0 where
  pub first : ℕ
  pub begun : Contains ring first
  pub once : (p : ℕ) → Contains ring p → StandsIn before p → ⊥
  pub needed : (p q : ℕ) → Contains ring p → Links needs n p q → StandsIn (before ++ ring ∷ []) q
  pub together : (p q : ℕ) → Contains ring p → Contains ring q → Leads (Links needs n) p q

-- each ring comes after those before it
abbrev pub AreRingsAfter : List (List ℕ) → ℕ → List (List ℕ) → List (List ℕ) → Type 0
AreRingsAfter needs n before [] = Unit {0}
AreRingsAfter needs n before (ring ∷ later) = IsNextRing needs n before ring × AreRingsAfter needs n (before ++ ring ∷ []) later

-- the rings of the marked nodes: each marked node is in one of them, and no other node is
pub record AreRings (needs : List (List ℕ)) (members : List Bool) (rings : List (List ℕ)) : Type 0 where
  pub order : AreRingsAfter needs (length members) [] rings
  pub whole : (p : ℕ) → IsMarked members p → StandsIn rings p
  pub only : (p : ℕ) → StandsIn rings p → IsMarked members p

-- the members that are left are marked; the others stand in the rings so far
pub record ArePut (needs : List (List ℕ)) (members left : List Bool) (rings : List (List ℕ)) : Type 0 where
  pub len : length left ≡ length members
  pub order : AreRingsAfter needs (length members) [] rings
  pub within : (p : ℕ) → IsMarked left p → IsMarked members p
  pub whole : (p : ℕ) → IsMarked members p → IsMarked left p ⊎ StandsIn rings p
  pub only : (p : ℕ) → StandsIn rings p → IsMarked members p
  pub apart : (p : ℕ) → StandsIn rings p → IsMarked left p → ⊥

-- some more were put
pub record Goes (needs : List (List ℕ)) (left left' : List Bool) (rings rings' : List (List ℕ)) : Type 0 where
  pub len : length left' ≡ length left
  pub at_most : marked_count left' ≤ marked_count left
  pub goes : (members : List Bool) → IsClosed needs members → ArePut needs members left rings → ArePut needs members left' rings'

-- some node is left
pub record IsAnyLeft (left : List Bool) : Type 0 where
  pub node : ℕ
  pub marked : IsMarked left node

-- nodes that are left and need one another, and all of their needs that are left
pub record IsRing (needs : List (List ℕ)) (left : List Bool) (ring : List ℕ) : Type 0 where
  pub first : ℕ
  pub begun : Contains ring first
  pub marked : (p : ℕ) → Contains ring p → IsMarked left p
  pub closed : (p q : ℕ) → Contains ring p → Links needs (length left) p q → IsMarked left q → Contains ring q
  pub together : (p q : ℕ) → Contains ring p → Contains ring q → Leads (Links needs (length left)) p q

-- a node of a ring that has a first: its needs that are left are in the ring
pub record IsOfRing (needs : List (List ℕ)) (left : List Bool) (ring : List ℕ) (first p : ℕ) : Type 0 where
  pub marked : IsMarked left p
  pub leads : Leads (Links needs (length left)) first p
  pub back : Leads (Links needs (length left)) p first
  pub closed : (q : ℕ) → Contains (row needs p) q → IsMarked left q → Contains ring q

-- these are marked no more, and all others are as they were
pub record AreTakenOut (nodes : List ℕ) (old new : List Bool) : Type 0 where
  pub len : length new ≡ length old
  pub gone : (p : ℕ) → Contains nodes p → mark_of new p ≡ false
  pub kept : (p : ℕ) → IsMarked old p → IsMarked new p ⊎ Contains nodes p
  pub falls : (p : ℕ) → IsMarked new p → IsMarked old p
  pub at_most : marked_count new ≤ marked_count old
  pub fewer : (p : ℕ) → Contains nodes p → IsMarked old p → marked_count new < marked_count old

-- ---- what ties the nodes of a ring

-- rows have only what others have
abbrev pub AreWithin : List (List ℕ) → List (List ℕ) → Type 0
AreWithin needs within = (p q : ℕ) → Contains (row within p) q → Contains (row needs p) q

-- a node leads to p, and p leads to it
pub record IsTied (from to : List (Option ℕ)) (first p : ℕ) : Type 0 where
  pub leads : source_of from p ≡ Some first
  pub back : source_of to p ≡ Some first

pub record AreTied (needs : List (List ℕ)) (n : ℕ) (from to : List (Option ℕ)) : Type 0 where
  pub leads : (p first : ℕ) → source_of from p ≡ Some first → Leads (Links needs n) first p
  pub back : (p first : ℕ) → source_of to p ≡ Some first → Leads (Links needs n) p first

-- ---- a ring that needs nothing else, by a search over all that is left

-- a node that is left and its own source
pub record IsRoot (left : List Bool) (sources : List (Option ℕ)) (p : ℕ) : Type 0 where
  pub marked : IsMarked left p
  pub own : source_of sources p ≡ Some p

-- the greatest of these
pub record IsGreatestRoot (left : List Bool) (sources : List (Option ℕ)) (p : ℕ) : Type 0 where
  pub root : IsRoot left sources p
  pub greatest : (q : ℕ) → IsRoot left sources q → q ≤ p

-- one node alone is marked
pub record IsOnly (n p : ℕ) (marks : List Bool) : Type 0 where
  pub len : length marks ≡ n
  pub marked : p < n → IsMarked marks p
  pub only : (q : ℕ) → IsMarked marks q → q ≡ p

-- a node that is left and has a source
pub record IsReached (left : List Bool) (sources : List (Option ℕ)) (p : ℕ) : Type 0 where
  pub marked : IsMarked left p
  pub sourced : HasSource sources p

-- those of them below i
pub record AreReached (left : List Bool) (sources : List (Option ℕ)) (i : ℕ) (nodes : List ℕ) : Type 0 where
  pub reached : (p : ℕ) → Contains nodes p → IsReached left sources p
  pub whole : (p : ℕ) → p < i → IsReached left sources p → Contains nodes p
