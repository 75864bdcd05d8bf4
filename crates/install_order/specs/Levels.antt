-- No part of what is promised: private contracts cite it. The number of steps before each node.
use Rattle.std.specs.Prelude.{◌≡◌, ◌<◌, ◌⊎◌, ◌++◌, ◌==◌, ℕ, suc, List, [], ◌∷◌, Bool, Option, Some, None, false, filter, length, map, max, ◌+◌, Contains, slice_index_or}
use Rattle.std.specs.Global.{Vec}
use Rattle.std.specs.List.{range_with_len}
use Rattle.requisites.specs.Leads.{Leads}
use Rattle.requisites.specs.Nodes.{Links, row}

-- the level of a node, if it has one: the number of steps before it
abbrev pub level_of : List (Option ℕ) → ℕ → Option ℕ
level_of levels p = slice_index_or levels p None

-- all levels are less than a number
abbrev pub AreLevelsBelow : List (Option ℕ) → ℕ → Type 0
AreLevelsBelow levels most = (p level : ℕ) → level_of levels p ≡ Some level → level < most

-- a node that p needs has a level too: a lesser one, or the same if it leads back
pub record Falls (needs : List (List ℕ)) (n : ℕ) (levels : List (Option ℕ)) (p level q : ℕ) : Type 0 where
  pub below : ℕ
  pub is : level_of levels q ≡ Some below
  pub falls : (below < level) ⊎ ((below ≡ level) × Leads (Links needs n) q p)

-- a node of a level to which p leads
pub record Rests (needs : List (List ℕ)) (n : ℕ) (levels : List (Option ℕ)) (p level : ℕ) : Type 0 where
  pub on : ℕ
  pub is : level_of levels on ≡ Some level
  pub leads : Leads (Links needs n) p on

-- the levels of the nodes that are put: each is one more than the greatest of the nodes that have to come before
pub record AreLevels (needs : List (List ℕ)) (n : ℕ) (IsPut : ℕ → Type 0) (levels : List (Option ℕ)) : Type 0 where
  pub len : length levels ≡ n
  pub whole : (p : ℕ) → IsPut p → level_of levels p ≡ None → ⊥
  pub only : (p level : ℕ) → level_of levels p ≡ Some level → IsPut p
  pub falls : (p q level : ℕ) → level_of levels p ≡ Some level → Links needs n p q → Falls needs n levels p level q
  pub rests : (p level : ℕ) → level_of levels p ≡ Some (suc level) → Rests needs n levels p level

-- ---- one ring

-- a level, or the one just above another if that is greater
abbrev pub raise : ℕ → Option ℕ → ℕ
raise level None = level
raise level (Some below) = max level (below + 1)

-- a node of a row that has the level below
pub record IsBelow (levels : List (Option ℕ)) (row : List ℕ) (level : ℕ) : Type 0 where
  pub node : ℕ
  pub listed : Contains row node
  pub below : ℕ
  pub is : level_of levels node ≡ Some below
  pub next : level ≡ suc below

-- a level that is just above those of a row
pub record IsJustAbove (levels : List (Option ℕ)) (row : List ℕ) (level : ℕ) : Type 0 where
  pub above : (q below : ℕ) → Contains row q → level_of levels q ≡ Some below → below < level
  pub just : (level ≡ 0) ⊎ IsBelow levels row level

-- the same for a node of a ring
pub record IsBelowRing (needs : List (List ℕ)) (levels : List (Option ℕ)) (ring : List ℕ) (level : ℕ) : Type 0 where
  pub node : ℕ
  pub listed : Contains ring node
  pub rests : IsBelow levels (row needs node) level

pub record IsLevelOf (needs : List (List ℕ)) (levels : List (Option ℕ)) (ring : List ℕ) (level : ℕ) : Type 0 where
  pub above : (p q below : ℕ) → Contains ring p → Contains (row needs p) q → level_of levels q ≡ Some below → below < level
  pub just : (level ≡ 0) ⊎ IsBelowRing needs levels ring level

-- a node of a list has the level
pub record IsSet (nodes : List ℕ) (level : ℕ) (levels : List (Option ℕ)) (p : ℕ) : Type 0 where
  pub listed : Contains nodes p
  pub is : level_of levels p ≡ Some level

-- the nodes of a list have a level now, and the others have what they had
pub record AreLevelled (nodes : List ℕ) (level : ℕ) (old new : List (Option ℕ)) : Type 0 where
  pub len : length new ≡ length old
  pub set : (p : ℕ) → Contains nodes p → p < length old → level_of new p ≡ Some level
  pub each : (p : ℕ) → (level_of new p ≡ level_of old p) ⊎ IsSet nodes level new p

-- ---- rows

-- whether a node has a level
abbrev pub has_level : Option ℕ → ℕ → Bool
has_level None level = false
has_level (Some own) level = own == level

-- of the first i nodes those of a level
abbrev pub nodes_with : List (Option ℕ) → ℕ → ℕ → List ℕ
nodes_with levels i level = filter (λ p. has_level (level_of levels p) level) (range_with_len 0 i)

-- a node of the greatest level
pub record HasLast (levels : List (Option ℕ)) (count : ℕ) : Type 0 where
  pub node : ℕ
  pub last : ℕ
  pub is : level_of levels node ≡ Some last
  pub next : count ≡ suc last

-- the number of levels
pub record AreCounted (levels : List (Option ℕ)) (count : ℕ) : Type 0 where
  pub above : AreLevelsBelow levels count
  pub last : (count ≡ 0) ⊎ HasLast levels count

-- for each level its nodes
pub record AreRows (levels : List (Option ℕ)) (rows : List (List ℕ)) : Type 0 where
  pub count : ℕ
  pub counted : AreCounted levels count
  pub are : rows ≡ map (nodes_with levels (length levels)) (range_with_len 0 count)

abbrev pub lists_in : List (Vec ℕ) → List (List ℕ)
lists_in lists = map (λ list. list.items) lists

-- so far they have those of the first i nodes
abbrev pub AreNodesWith : List (Option ℕ) → ℕ → List (List ℕ) → Type 0
AreNodesWith levels i lists = (level : ℕ) → level < length lists → row lists level ≡ nodes_with levels i level

-- a node is put to the list of a level, if there is one
pub record IsPutAt (level node : ℕ) (old new : List (List ℕ)) : Type 0 where
  pub put : level < length old → row new level ≡ row old level ++ node ∷ []
  pub others : (other : ℕ) → ¬ (other ≡ level) → row new other ≡ row old other

abbrev pub IsPutBy : Option ℕ → ℕ → List (List ℕ) → List (List ℕ) → Type 0
IsPutBy None node old new = new ≡ old
IsPutBy (Some level) node old new = IsPutAt level node old new
