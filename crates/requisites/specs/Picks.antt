-- No part of what is promised: private contracts cite it. Picks by node.
use Rattle.std.specs.Prelude.{◌⊎◌, ℕ, List, Contains}
use Rattle.requisites.specs.World.{IsGoodGiver, IsPick, PicksFor}
use Rattle.requisites.specs.Nodes.{IsMarked, world}
use Rattle.requisites.specs.declared.nodes.Nodes.{Nodes}

-- z is the pick for a need that isn't there
pub record IsNeedPick (nodes : Nodes) (need z : ℕ) : Type 0 where
  pub absent : IsMarked nodes.there.items need → ⊥
  pub pick : IsPick (world nodes) need z

-- the need is there, or no good node gives it
abbrev pub HasNoPick : Nodes → ℕ → Type 0
HasNoPick nodes need = IsMarked nodes.there.items need ⊎ ((z : ℕ) → IsGoodGiver (world nodes) need z → ⊥)

-- the list has the picks for the needs of p that aren't there, and no others
pub record ArePicksFor (nodes : Nodes) (p : ℕ) (picks : List ℕ) : Type 0 where
  pub picked : (z : ℕ) → Contains picks z → PicksFor (world nodes) p z
  pub whole : (z : ℕ) → PicksFor (world nodes) p z → Contains picks z
