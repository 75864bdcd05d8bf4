-- The good nodes, and the least of them that gives each node.
use Rattle.std.specs.Prelude.{◌≡◌, ◌<◌, ◌≤◌, ◌⊎◌, ℕ, List, Bool, true, false, Option, None, length, Contains, sum_by, if◌then◌else◌}
use Rattle.requisites.specs.World.{IsGood, IsGoodGiver}
use Rattle.requisites.specs.Nodes.{IsMarked, mark_of, row, world}
use Rattle.requisites.specs.Sources.{AreLeastSources, HasSource, source_of}
use Rattle.requisites.specs.declared.nodes.Nodes.{Nodes}

-- the marks are those of the good nodes, and each node's giver is the least good one
pub record AreGood (nodes : Nodes) (good : List Bool) (givers : List (Option ℕ)) : Type 0 where
  pub len : length good ≡ length nodes.candidates.items
  pub marked : (p : ℕ) → IsMarked good p → IsGood (world nodes) p
  pub unmarked : (p : ℕ) → IsGood (world nodes) p → IsMarked good p
  pub given_by : AreLeastSources nodes.supersedes good givers

-- ---- No part of what is promised: how what isn't good falls. Private contracts cite what follows.

-- one of these needs, which isn't there and has no giver
pub record IsOpenNeed (nodes : Nodes) (givers : List (Option ℕ)) (listed : List ℕ) (r : ℕ) : Type 0 where
  pub needs : Contains listed r
  pub absent : mark_of nodes.there.items r ≡ false
  pub ungiven : source_of givers r ≡ None

-- each of these needs is there or has a giver
pub record AreMet (nodes : Nodes) (givers : List (Option ℕ)) (needs : List ℕ) : Type 0 where
  pub met : (r : ℕ) → Contains needs r → IsMarked nodes.there.items r ⊎ HasSource givers r

-- the least open one of these needs
pub record IsLeastOpen (nodes : Nodes) (givers : List (Option ℕ)) (needs : List ℕ) (r : ℕ) : Type 0 where
  pub is_open : IsOpenNeed nodes givers needs r
  pub least : (s : ℕ) → IsOpenNeed nodes givers needs s → r ≤ s

-- the number of marked nodes
abbrev pub marked_count : List Bool → ℕ
marked_count marks = sum_by (λ b. if b then 1 else 0) marks

-- p has an open need
pub record HasOpenNeed (nodes : Nodes) (givers : List (Option ℕ)) (p : ℕ) : Type 0 where
  pub need : ℕ
  pub is_open : IsOpenNeed nodes givers (row nodes.needs p) need

-- the marks after the marked nodes below i with an open need have lost theirs
pub record AreSwept (nodes : Nodes) (givers : List (Option ℕ)) (i : ℕ) (old new : List Bool) (fell : Bool) : Type 0 where
  pub len : length new ≡ length old
  pub falls : (p : ℕ) → IsMarked new p → IsMarked old p
  pub fell_for : (p : ℕ) → IsMarked old p → IsMarked new p ⊎ HasOpenNeed nodes givers p
  pub at_most : marked_count new ≤ marked_count old
  pub fewer : fell ≡ true → marked_count new < marked_count old
  pub same : fell ≡ false → new ≡ old
  pub met : fell ≡ false → (p : ℕ) → p < i → IsMarked old p → AreMet nodes givers (row nodes.needs p)

-- the marks that are left: of candidates only, and of each good node
pub record AreMarksLeft (nodes : Nodes) (marks : List Bool) : Type 0 where
  pub len : length marks ≡ length nodes.candidates.items
  pub candidates : (p : ℕ) → IsMarked marks p → IsMarked nodes.candidates.items p
  pub keep : (p : ℕ) → IsGood (world nodes) p → IsMarked marks p

-- each node that a good one gives is open
pub record AreOpen (nodes : Nodes) (marks : List Bool) : Type 0 where
  pub given : (r z : ℕ) → IsGoodGiver (world nodes) r z → IsMarked marks r

-- a need of p isn't there, and isn't open
pub record HasClosedNeed (nodes : Nodes) (marks : List Bool) (p : ℕ) : Type 0 where
  pub need : ℕ
  pub needs : Contains (row nodes.needs p) need
  pub absent : mark_of nodes.there.items need ≡ false
  pub closed : mark_of marks need ≡ false

-- none of these is marked
pub record AreUnmarked (marks : List Bool) (indices : List ℕ) : Type 0 where
  pub each : (p : ℕ) → Contains indices p → mark_of marks p ≡ false

-- each of these nodes is among others
pub record AreAmong (indices others : List ℕ) : Type 0 where
  pub each : (p : ℕ) → Contains indices p → Contains others p

-- each of these nodes is closed, or one of a ring
pub record AreClosedBut (opens : List Bool) (ring indices : List ℕ) : Type 0 where
  pub each : (p : ℕ) → Contains indices p → (mark_of opens p ≡ false) ⊎ Contains ring p

-- each node that supersedes one of these is closed, or one of a ring
pub record AreShutOff (superseders : List (List ℕ)) (opens : List Bool) (ring indices : List ℕ) : Type 0 where
  pub each : (p : ℕ) → Contains indices p → AreClosedBut opens ring (row superseders p)

-- a ring of an open node: none of it is marked, and no open node outside supersedes any of it
pub record CanClose (superseders : List (List ℕ)) (marks opens : List Bool) (ring : List ℕ) (p : ℕ) : Type 0 where
  pub index : p < length opens
  pub was_open : IsMarked opens p
  pub member : Contains ring p
  pub unmarked : AreUnmarked marks ring
  pub above : AreShutOff superseders opens ring ring

-- no good node gives one of these
pub record AreUngiven (nodes : Nodes) (indices : List ℕ) : Type 0 where
  pub each : (r z : ℕ) → Contains indices r → IsGoodGiver (world nodes) r z → ⊥

-- no other node has lost its mark
pub record IsShut (p : ℕ) (old new : List Bool) : Type 0 where
  pub others : (q : ℕ) → (q ≡ p → ⊥) → IsMarked old q → IsMarked new q
  pub fewer : marked_count new ≤ marked_count old

-- fewer are marked, or as many, and there is no more work than before
abbrev pub ComesNearer : List Bool → List Bool → ℕ → ℕ → Type 0
ComesNearer old new work work' = (marked_count new < marked_count old) ⊎ ((marked_count new ≡ marked_count old) × (work' ≤ work))
