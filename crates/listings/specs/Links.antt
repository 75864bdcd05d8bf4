-- Which of the gathered SYSMODs gives which, by index.
use Rattle.std.specs.Prelude.{◌≡◌, ◌<◌, ℕ, Bool, true, false, List, Contains, length, map, slice_index_or}
use Rattle.requisites.specs.Leads.{Leads}
use Rattle.requisites.specs.Nodes.{row}
use Rattle.verdicts.specs.Indices.{id_at}
use Rattle.listings.specs.declared.gathered.Gathered.{Gathered}

-- q is listed for p as one that supersedes it directly
abbrev pub IsAbove : List (List ℕ) → ℕ → ℕ → Type 0
IsAbove above p q = Contains (row above p) q

-- whether what was read says that an index is catalogued
abbrev pub is_catalogued_at : List Gathered → ℕ → Bool
is_catalogued_at gathered p = slice_index_or (map (λ g. g.entry.catalogued) gathered) p false

-- an id that gives the one at an index: it is catalogued, and is that one or supersedes it, directly or through others
pub record IsGiverAt (ids : List (List ℕ)) (gathered : List Gathered) (above : List (List ℕ)) (index : ℕ) (id : List ℕ) : Type 0 where
  pub own : ℕ
  pub within : own < length ids
  pub is : id_at ids own ≡ id
  pub catalogued : is_catalogued_at gathered own ≡ true
  pub leads : Leads (IsAbove above) index own
