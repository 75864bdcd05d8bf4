-- Plans: SYSMODs that can be installed together (IBM z/OS SMP/E Reference, `++VER`, operands PRE, REQ and
-- SUP).
use Rattle.std.specs.Prelude.{◌≡◌, List, Contains, ◌⊎◌}
use Rattle.requisites.specs.Leads.{Leads}

-- Ids as a zone sees them: which of them may be installed there, the needs of each, which are there already,
-- which gives which, and their order.
pub record World (A : Type 0) : Type 1 where
  pub Candidate : A → Type 0
  pub Needs : A → A → Type 0
  pub There : A → Type 0
  pub Gives : A → A → Type 0
  pub AtMost : A → A → Type 0

-- the least for which P holds
pub record IsLeast {A : Type 0} (W : World A) (P : A → Type 0) (x : A) : Type 0 where
  pub holds : P x
  pub least : (y : A) → P y → W.AtMost x y

-- a member of a list gives r
pub record IsGivenIn {A : Type 0} (W : World A) (members : List A) (r : A) : Type 0 where
  pub giver : A
  pub member : Contains members giver
  pub gives : W.Gives giver r

-- a plan: candidates in which each need of each member is there or is given by a member
pub record IsPlan {A : Type 0} (W : World A) (members : List A) : Type 0 where
  pub candidates : (y : A) → Contains members y → W.Candidate y
  pub needs_met : (y r : A) → Contains members y → W.Needs y r → W.There r ⊎ IsGivenIn W members r

-- good: some plan holds it
pub record IsGood {A : Type 0} (W : World A) (x : A) : Type 0 where
  pub members : List A
  pub plan : IsPlan W members
  pub member : Contains members x

-- a good id that gives r
pub record IsGoodGiver {A : Type 0} (W : World A) (r y : A) : Type 0 where
  pub good : IsGood W y
  pub gives : W.Gives y r

-- the pick for a need: the need itself if it is good, else the least good id that gives it
abbrev pub IsPick : {A : Type 0} → World A → A → A → Type 0
IsPick W r z = (IsGood W r × (z ≡ r)) ⊎ ((¬ IsGood W r) × IsLeast W (IsGoodGiver W r) z)

-- z is the pick for a need of y that isn't there
pub record PicksFor {A : Type 0} (W : World A) (y z : A) : Type 0 where
  pub need : A
  pub needs : W.Needs y need
  pub absent : ¬ W.There need
  pub pick : IsPick W need z

-- in the chosen plan of x: x, and each id to which a list of picks leads from x
abbrev pub IsChosen : {A : Type 0} → World A → A → A → Type 0
IsChosen W x y = Leads (PicksFor W) x y

-- a need of y that isn't there and that no good id gives
pub record IsUnmetNeed {A : Type 0} (W : World A) (y r : A) : Type 0 where
  pub needs : W.Needs y r
  pub absent : ¬ W.There r
  pub ungiven : (z : A) → IsGoodGiver W r z → ⊥

-- the blocked need: the least of these
abbrev pub IsBlockedNeed : {A : Type 0} → World A → A → A → Type 0
IsBlockedNeed W y r = IsLeast W (IsUnmetNeed W y) r

-- the chosen plan of a good x, as a list in any order
pub record IsChosenPlan {A : Type 0} (W : World A) (x : A) (members : List A) : Type 0 where
  pub good : IsGood W x
  pub chosen : (y : A) → Contains members y → IsChosen W x y
  pub whole : (y : A) → IsChosen W x y → Contains members y

-- in the chosen plan of a good one of some ids
pub record IsChosenByAny {A : Type 0} (W : World A) (starts : List A) (y : A) : Type 0 where
  pub start : A
  pub listed : Contains starts start
  pub good : IsGood W start
  pub chosen : IsChosen W start y

-- the members of the chosen plans of the good ones of some ids, as a list in any order
pub record AreChosenPlans {A : Type 0} (W : World A) (starts members : List A) : Type 0 where
  pub chosen : (y : A) → Contains members y → IsChosenByAny W starts y
  pub whole : (y : A) → IsChosenByAny W starts y → Contains members y

-- held: a candidate that isn't good, and its blocked need
pub record IsHeldFor {A : Type 0} (W : World A) (x r : A) : Type 0 where
  pub candidate : W.Candidate x
  pub held : ¬ IsGood W x
  pub blocked : IsBlockedNeed W x r
