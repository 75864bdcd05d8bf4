-- What is read of each SYSMOD of a frame, and how the SYSMODs of the
-- frame are found.
use Rattle.std.specs.Prelude.{◌≡◌, ◌++◌, ℕ, List, Contains, map, take}
use Rattle.catalogue.specs.Content.{Content, superseders}
use Rattle.requisites.specs.Leads.{Leads}
use Rattle.listings.specs.Sights.{all_needs, sight_of}
use Rattle.listings.specs.declared.gathered.Gathered.{Gathered}

-- what a content says of an id, and the ids that supersede it directly
abbrev pub gathered_of : Content → List ℕ → Gathered
gathered_of content id = record { entry = sight_of content id; above = superseders content id }

-- the ids to which one step leads: its needs, also those under a condition, and those that supersede it directly
abbrev pub named_by : Gathered → List (List ℕ)
named_by gathered = all_needs gathered.entry ++ gathered.above

abbrev pub Names : Content → List ℕ → List ℕ → Type 0
Names content from to = Contains (named_by (gathered_of content from)) to

-- each id before an index of an order was read
abbrev pub AreRead : List (List ℕ) → List (List ℕ) → ℕ → Type 0
AreRead read order at = (id : List ℕ) → Contains (take at order) id → Contains read id

-- all ids that are named by what is read are in a list
pub record AreNamed (list : List Gathered) (ids : List (List ℕ)) : Type 0 where
  pub named : (gathered : Gathered) (id : List ℕ) → Contains list gathered → Contains (named_by gathered) id → Contains ids id

-- A walk by steps from one: those in the order are to be looked at, in turn; those before an index have been, and the order
-- has all to which they step.
pub record IsWalked {A : Type 0} (Step : A → A → Type 0) (start : A) (seen order : List A) (at : ℕ) : Type 0 where
  pub begun : Contains order start
  pub asked : (y : A) → Contains (take at order) y → Contains seen y
  pub drawn : (x : A) → Contains seen x → Contains order x
  pub closed : (x y : A) → Contains seen x → Step x y → Contains order y
  pub reached : (y : A) → Contains order y → Leads Step start y

-- what was read of the ids, and the state of the walk
pub record IsGathering (content : Content) (start : List ℕ) (ids order : List (List ℕ)) (at : ℕ) (gathered : List Gathered) : Type 0 where
  pub says : gathered ≡ map (gathered_of content) ids
  pub walked : IsWalked (Names content) start ids order at

-- what was read is what a content says of each id to which steps lead from one
pub record IsGathered (content : Content) (start : List ℕ) (ids : List (List ℕ)) (gathered : List Gathered) : Type 0 where
  pub says : gathered ≡ map (gathered_of content) ids
  pub whole : (id : List ℕ) → Leads (Names content) start id → Contains ids id
  pub reached : (id : List ℕ) → Contains ids id → Leads (Names content) start id
