-- No part of what is promised: private contracts cite it. The SYSMODs that supersede some, by their indices, and which of some
-- another one of them gives.
use Rattle.std.specs.Prelude.{◌≡◌, ◌+◌, ◌<◌, ◌-◌, ◌↔◌, ℕ, List, Bool, true, Option, Some, None, length, Contains}
use Rattle.catalogue.specs.Content.{Content, IsInOrder}
use Rattle.chains.specs.Climbs.{AreAbove}
use Rattle.requisites.specs.Leads.{Leads}
use Rattle.requisites.specs.Nodes.{AreReversed, IsMarked, Links, mark_of, row}
use Rattle.requisites.specs.Sources.{source_of}
use Rattle.supersede.specs.Reach.{has}
use Rattle.verdicts.specs.Indices.{AreIndexed, IsAt, id_at}
use Rattle.zone_plans.specs.declared.choice.Known.{Known}

-- by index, those that each of some ids supersedes directly, if the lists have for each those that supersede it
pub record IsTurnedOf (ids : List (List ℕ)) (lists : List (List (List ℕ))) (below : List (List ℕ)) : Type 0 where
  pub above : List (List ℕ)
  pub indexed : AreIndexed ids lists above
  pub turned : AreReversed above (length ids) below

-- by index, those that each of some ids supersedes directly; all that supersede one of these are among them
pub record IsClimb (content : Content) (ids : List (List ℕ)) (below : List (List ℕ)) : Type 0 where
  pub above : List (List ℕ)
  pub are : AreAbove content ids above
  pub turned : AreReversed above (length ids) below
  pub ordered : (id : List ℕ) → Contains ids id → IsInOrder content

-- ---- nodes in their order turned round

-- the node that stands as far from the end as another from the start
abbrev pub mirror : ℕ → ℕ → ℕ
mirror n p = n - (p + 1)

-- the nodes of a row, turned round; those past the end are left out
abbrev pub IsMirrored : ℕ → List ℕ → List ℕ → Type 0
IsMirrored n old new = (q : ℕ) → q < n → Contains new (mirror n q) ↔ Contains old q

-- the rows, and the nodes of each, turned round
pub record AreMirrored (n : ℕ) (old new : List (List ℕ)) : Type 0 where
  pub each : (p : ℕ) → p < n → IsMirrored n (row old p) (row new (mirror n p))

-- the marks turned round
pub record MarksMirrored (n : ℕ) (old new : List Bool) : Type 0 where
  pub len : length new ≡ n
  pub each : (p : ℕ) → p < n → mark_of new (mirror n p) ≡ mark_of old p

-- ---- another marked node

-- another marked node leads to a node
pub record IsLedBy (lists : List (List ℕ)) (n : ℕ) (marks : List Bool) (p s : ℕ) : Type 0 where
  pub is_other : s ≡ p → ⊥
  pub marked : IsMarked marks s
  pub leads : Leads (Links lists n) s p

-- another marked node that leads to a node; none if no other does
abbrev pub IsOther : List (List ℕ) → ℕ → List Bool → ℕ → Option ℕ → Type 0
IsOther lists n marks p None = (m : ℕ) → IsMarked marks m → Leads (Links lists n) m p → m ≡ p
IsOther lists n marks p (Some s) = IsLedBy lists n marks p s

-- for each of n nodes another marked one that leads to it, if there is one
pub record AreOthers (lists : List (List ℕ)) (n : ℕ) (marks : List Bool) (found : List (Option ℕ)) : Type 0 where
  pub len : length marks ≡ n
  pub each : (p : ℕ) → p < n → IsOther lists n marks p (source_of found p)

-- it is known if another one of some ids gives this one: it is marked, and the one that was found is one of them
pub record IsKnown (ids : List (List ℕ)) (marks : List Bool) (found : List (Option ℕ)) (among : List (List ℕ)) (id : List ℕ) : Type 0 where
  pub marked : (p : ℕ) → IsAt ids id p → IsMarked marks p
  pub other : (p s : ℕ) → IsAt ids id p → source_of found p ≡ Some s → has among (id_at ids s) ≡ true

abbrev pub AreKnownAmong : List (List ℕ) → List Bool → List (Option ℕ) → List (List ℕ) → Type 0
AreKnownAmong ids marks found among = (id : List ℕ) → Contains among id → IsKnown ids marks found among id

-- what is known of the resolvers of a kind is so
pub record AreKnown (ids : List (List ℕ)) (below : List (List ℕ)) (known : Known) : Type 0 where
  pub all : AreOthers below (length ids) known.all.marks.items known.all.found.items
  pub received : AreOthers below (length ids) known.received.marks.items known.received.found.items
