-- No part of what is promised: private contracts cite it. The state of the search for sources.
use Rattle.std.specs.Prelude.{◌≡◌, ◌<◌, ◌≤◌, ◌⊎◌, ◌+◌, ℕ, List, Option, Some, None, length, Contains, is_none, sum_by, if◌then◌else◌}
use Rattle.requisites.specs.Leads.{Leads}
use Rattle.requisites.specs.Nodes.{Links}
use Rattle.requisites.specs.Sources.{source_of, HasSource}

-- the number of nodes without a source
abbrev pub sourceless : List (Option ℕ) → ℕ
sourceless sources = sum_by (λ o. if is_none o then 1 else 0) sources

-- q had no source, is in the row, and has s now
pub record IsTaken (row : List ℕ) (s : ℕ) (old : List (Option ℕ)) (work : List ℕ) (q t : ℕ) : Type 0 where
  pub source : t ≡ s
  pub in_row : Contains row q
  pub index : q < length old
  pub before : source_of old q ≡ None
  pub put : Contains work q

-- each node of a row has a source now; those that had none have s, and are put to the work
pub record SourcesTaken (row : List ℕ) (s : ℕ) (old new : List (Option ℕ)) (work work' : List ℕ) : Type 0 where
  pub len : length new ≡ length old
  pub stays : (q t : ℕ) → source_of old q ≡ Some t → source_of new q ≡ Some t
  pub row_taken : (q : ℕ) → Contains row q → q < length old → HasSource new q
  pub taken : (q t : ℕ) → source_of new q ≡ Some t → (source_of old q ≡ Some t) ⊎ IsTaken row s old work' q t
  pub work_stays : (q : ℕ) → Contains work q → Contains work' q
  pub work_new : (q : ℕ) → Contains work' q → Contains work q ⊎ IsTaken row s old work' q s
  pub grows : length work ≤ length work'
  pub count : length work' + sourceless new ≡ length work + sourceless old

-- a node to which one with a source links has one too, unless that one is still to be worked on
pub record AreClosed (lists : List (List ℕ)) (sources : List (Option ℕ)) (work : List ℕ) : Type 0 where
  pub closed : (p q : ℕ) → HasSource sources p → Links lists (length sources) p q → HasSource sources q ⊎ Contains work p

-- a list leads from s to each of these
pub record AreReached (lists : List (List ℕ)) (n s : ℕ) (work : List ℕ) : Type 0 where
  pub reached : (q : ℕ) → Contains work q → Leads (Links lists n) s q

-- q had no source, and a list leads from s to it
pub record IsSpread (lists : List (List ℕ)) (s : ℕ) (old : List (Option ℕ)) (q t : ℕ) : Type 0 where
  pub source : t ≡ s
  pub leads : Leads (Links lists (length old)) s q
  pub before : source_of old q ≡ None

-- the nodes to which lists lead from s have sources; those that had none have s
pub record SourcesSpread (lists : List (List ℕ)) (s : ℕ) (old new : List (Option ℕ)) : Type 0 where
  pub len : length new ≡ length old
  pub stays : (q t : ℕ) → source_of old q ≡ Some t → source_of new q ≡ Some t
  pub begun : s < length old → HasSource new s
  pub spread : (q t : ℕ) → source_of new q ≡ Some t → (source_of old q ≡ Some t) ⊎ IsSpread lists s old q t
