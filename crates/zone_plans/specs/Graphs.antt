-- No part of what is promised: private contracts cite it. Members by their indices in a list that ascends.
use Rattle.std.specs.Prelude.{◌≡◌, ◌<◌, ◌⊎◌, ℕ, Bool, List, [], Option, Some, None, length, map, Contains, slice_index_or}
use Rattle.std.specs.Global.{Vec}
use Rattle.mcs_reader.specs.declared.id.Id.{Id}
use Rattle.requisites.specs.Leads.{Leads}
use Rattle.requisites.specs.Nodes.{IsMarked, Links}
use Rattle.requisites.specs.Sources.{HasSource}
use Rattle.verdicts.specs.Indices.{id_at, RowsAre}
use Rattle.reports.specs.Holds.{HoldLists}
use Rattle.reports.specs.declared.holds.Resolver.{Resolver}
use Rattle.zone_plans.specs.Readings.{ReadingLists}

abbrev pub lists_of : List (Vec Id) → List (List (List ℕ))
lists_of lists = map (λ list. list.items) lists

abbrev pub list_at : List (List (List ℕ)) → ℕ → List (List ℕ)
list_at lists p = slice_index_or lists p []

-- the resolvers of a hold are among some ids
abbrev pub AreResolversOf : List (List ℕ) → HoldLists → Type 0
AreResolversOf ids hold = (resolver : Resolver) → Contains hold.resolvers resolver → Contains ids resolver.id

-- the index of a member that is left and is among some givers
pub record IsLeftAmong (ids : List (List ℕ)) (left : List Bool) (givers : List (List ℕ)) (q : ℕ) : Type 0 where
  pub within : q < length ids
  pub marked : IsMarked left q
  pub listed : Contains givers (id_at ids q)

-- a need whose givers are known, with the index of a member that is left and gives it
pub record IsGivenIndex (f : List ℕ → Option (List (List ℕ))) (ids : List (List ℕ)) (left : List Bool) (needs : List (List ℕ)) (q : ℕ) : Type 0 where
  pub need : List ℕ
  pub needed : Contains needs need
  pub givers : List (List ℕ)
  pub answer : f need ≡ Some givers
  pub gives : IsLeftAmong ids left givers q

-- the indices of the members that are left and give a need
pub record AreGivenIndices (f : List ℕ → Option (List (List ℕ))) (ids : List (List ℕ)) (left : List Bool) (needs : List (List ℕ)) (indices : List ℕ) : Type 0 where
  pub given : (q : ℕ) → Contains indices q → IsGivenIndex f ids left needs q
  pub whole : (q : ℕ) → IsGivenIndex f ids left needs q → Contains indices q

-- the needs of the member at an index, as they were read
abbrev pub needs_at : List ReadingLists → ℕ → List (List ℕ)
needs_at readings p = slice_index_or (map (λ reading. reading.needs) readings) p []

abbrev pub AreGiven : (List ℕ → Option (List (List ℕ))) → List (List ℕ) → List Bool → List ReadingLists → List (List ℕ) → Type 0
AreGiven f ids left readings rows = RowsAre (λ p indices. AreGivenIndices f ids left (needs_at readings p) indices) (length readings) rows

-- the indices of the members that are left among some givers are added
pub record ArePushed (ids : List (List ℕ)) (left : List Bool) (givers : List (List ℕ)) (old new : List ℕ) : Type 0 where
  pub keeps : (q : ℕ) → Contains old q → Contains new q
  pub given : (q : ℕ) → Contains new q → Contains old q ⊎ IsLeftAmong ids left givers q
  pub whole : (q : ℕ) → IsLeftAmong ids left givers q → Contains new q

-- the same by an answer: none is added for what is there
abbrev pub AreAnswered : List (List ℕ) → List Bool → Option (List (List ℕ)) → List ℕ → List ℕ → Type 0
AreAnswered ids left None old new = new ≡ old
AreAnswered ids left (Some givers) old new = ArePushed ids left givers old new

-- a node that is left and has a source
pub record IsStart (left : List Bool) (sources : List (Option ℕ)) (p : ℕ) : Type 0 where
  pub marked : IsMarked left p
  pub sourced : HasSource sources p

-- the marks of those that have a source
pub record AreSourced (sources : List (Option ℕ)) (marks : List Bool) : Type 0 where
  pub len : length marks ≡ length sources
  pub marked : (p : ℕ) → IsMarked marks p → HasSource sources p
  pub whole : (p : ℕ) → HasSource sources p → IsMarked marks p

-- of those that are left and have one
pub record AreStarts (left : List Bool) (sources : List (Option ℕ)) (marks : List Bool) : Type 0 where
  pub len : length marks ≡ length left
  pub marked : (p : ℕ) → IsMarked marks p → IsStart left sources p
  pub whole : (p : ℕ) → IsStart left sources p → IsMarked marks p

-- a node that is left, to which superseding leads from a chosen one
pub record IsStartOf (ids : List (List ℕ)) (above : List (List ℕ)) (left : List Bool) (chosen : List (List ℕ)) (p : ℕ) : Type 0 where
  pub marked : IsMarked left p
  pub resolver : ℕ
  pub within : resolver < length ids
  pub is_chosen : Contains chosen (id_at ids resolver)
  pub leads : Leads (Links above (length ids)) resolver p

pub record AreStartsOf (ids : List (List ℕ)) (above : List (List ℕ)) (left : List Bool) (chosen : List (List ℕ)) (starts : List Bool) : Type 0 where
  pub len : length starts ≡ length ids
  pub marked : (p : ℕ) → IsMarked starts p → IsStartOf ids above left chosen p
  pub whole : (p : ℕ) → IsStartOf ids above left chosen p → IsMarked starts p

-- a node to which needs lead from a start
pub record IsReachedFrom (needs : List (List ℕ)) (starts : List Bool) (p : ℕ) : Type 0 where
  pub start : ℕ
  pub marked : IsMarked starts start
  pub leads : Leads (Links needs (length starts)) start p

pub record AreReachedFrom (needs : List (List ℕ)) (starts members : List Bool) : Type 0 where
  pub len : length members ≡ length starts
  pub marked : (p : ℕ) → IsMarked members p → IsReachedFrom needs starts p
  pub whole : (p : ℕ) → IsReachedFrom needs starts p → IsMarked members p

-- the ids of each step
abbrev pub ids_of_steps : List (List ℕ) → List (List ℕ) → List (List (List ℕ))
ids_of_steps ids steps = map (λ step. map (id_at ids) step) steps

-- each entry of a row is the index of an id
abbrev pub AreWithin : List (List ℕ) → List (List ℕ) → Type 0
AreWithin ids rows = (k p : ℕ) → k < length rows → Contains (slice_index_or rows k []) p → p < length ids
