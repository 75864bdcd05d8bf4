-- What is seen of ids, and which of them are there, by their indices
-- in a list that ascends.
use Rattle.std.specs.Prelude.{◌≡◌, ◌<◌, ◌↔◌, ◌⊎◌, ℕ, Bool, true, List, length, Contains}
use Rattle.std.specs.List.{list_any}
use Rattle.zone_lists.specs.Installed.{is_installed, is_listed}
use Rattle.zone_lists.specs.declared.zones.ZoneRow.{ZoneRow}
use Rattle.requisites.specs.Leads.{Leads}
use Rattle.requisites.specs.Nodes.{Links}
use Rattle.requisites.specs.declared.nodes.Nodes.{Nodes}
use Rattle.verdicts.specs.Indices.{AreIndicesOf, MarksAre, RowsAre, id_at}
use Rattle.listings.specs.Sights.{IsSeen, Sight, needs_seen}

-- Q is true of what is seen of an id
pub record SeenAs (f : List ℕ → Sight) (ids : List (List ℕ)) (id : List ℕ) (Q : Sight → Type 0) : Type 0 where
  pub sight : Sight
  pub seen : IsSeen f ids id sight
  pub so : Q sight

-- the marks and the needs of the first n members, by what is seen of each: it may be installed in a zone that has one of its
-- functions, and it has its needs in that zone
pub record AreSeen (rows : List ZoneRow) (f : List ℕ → Sight) (ids members : List (List ℕ)) (n : ℕ) (candidates : List Bool) (needs : List (List ℕ)) : Type 0 where
  pub candidates_are : MarksAre (λ p mark. SeenAs f ids (id_at members p) (λ sight. mark ≡ list_any (λ fmid. is_installed rows fmid) sight.fmids)) n candidates
  pub needs_are : RowsAre (λ p indices. SeenAs f ids (id_at members p) (λ sight. AreIndicesOf members (needs_seen rows sight) indices)) n needs

-- the ids that the first n members supersede, by what is seen of each
abbrev pub IsSupSeen : (List ℕ → Sight) → List (List ℕ) → List (List ℕ) → ℕ → List (List ℕ) → Type 0
IsSupSeen f ids members n supersedes = RowsAre (λ p indices. SeenAs f ids (id_at members p) (λ sight. AreIndicesOf members sight.superseded indices)) n supersedes

-- a member is there: it is listed, or something gives it
abbrev pub IsThereAt : List ZoneRow → List (List ℕ) → (ℕ → Type 0) → ℕ → Bool → Type 0
IsThereAt rows members Given p mark = (mark ≡ true) ↔ ((is_listed rows (id_at members p) ≡ true) ⊎ Given p)

-- an installed member, from which a list of superseded ones leads to an index
pub record InstalledAt (rows : List ZoneRow) (members : List (List ℕ)) (supersedes : List (List ℕ)) (q : ℕ) : Type 0 where
  pub source : ℕ
  pub within : source < length members
  pub installed : is_installed rows (id_at members source) ≡ true
  pub leads : Leads (Links supersedes (length members)) source q

-- the marks of the members that are there
abbrev pub AreThere : List ZoneRow → List (List ℕ) → List (List ℕ) → List Bool → Type 0
AreThere rows members supersedes marks = MarksAre (IsThereAt rows members (InstalledAt rows members supersedes)) (length members) marks

-- nodes over some members name no other indices
pub record AreNodesWithin (members : List (List ℕ)) (nodes : Nodes) : Type 0 where
  pub len : length nodes.candidates.items ≡ length members
  pub needs : RowsAre (λ p indices. (q : ℕ) → Contains indices q → q < length members) (length members) nodes.needs
