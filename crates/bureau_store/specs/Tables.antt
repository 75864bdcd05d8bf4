-- The tables of the bureau. Each is a function of its owner's name, so that it has nothing of what others have.
use Rattle.std.specs.Prelude.{ℕ, List, [], Option, Some, None}
use Rattle.std.specs.Cmp.Lexicographic.{slice_cmp}
use Rattle.std.specs.List.Sorted.{IsStrictlySortedBy}
use Rattle.std.specs.Map.{keys_of, lookup}
use Rattle.std.specs.Ordering.{nat_cmp}
use Rattle.std.specs.Str.{bytes_eq}
use Rattle.std.specs.declared.cmp.Ordering.{Ordering}
use Rattle.zone_lists.specs.declared.zones.ZoneRow.{ZoneRow}
use Rattle.catalogue.specs.Content as catalogue
use Rattle.catalogue.specs.Content.{Content}
use Rattle.bureau_store.specs.declared.caller.Caller.{Caller}
use Rattle.bureau_store.specs.declared.caller.CallerRow.{CallerRow}

-- a zone: its SYSMODs with their states, and the patterns of the fix categories that are asked for
pub record ZoneTable : Type 0 where
  pub rows : List ZoneRow
  pub patterns : List (List ℕ)

-- a client's zones by their names
abbrev pub Zones : Type 0
Zones = List (List ℕ × ZoneTable)

-- a caller's last change: its number, 0 before the first, and the reply that is kept for it
pub record LastChange : Type 0 where
  pub number : ℕ
  pub reply : List ℕ

pub record Tables : Type 0 where
  -- who may call, each with a token
  pub callers : List CallerRow
  -- the published content
  pub content : Content
  -- the last change of each caller
  pub last : Caller → LastChange
  -- the zones of each client, by its name
  pub zones : List ℕ → Zones
  pub received : List ℕ → List (List ℕ)

-- before the first change
abbrev pub no_change : LastChange
no_change = record { number = 0; reply = [] }

-- a new store: it has callers, and nothing else
abbrev pub opened : List CallerRow → Tables
opened rows = record {
  callers = rows;
  content = catalogue.nothing;
  last = λ caller. no_change;
  zones = λ client. [];
  received = λ client. [];
}

-- the order of names is that of their bytes
abbrev pub name_order : List ℕ → List ℕ → Ordering
name_order = slice_cmp nat_cmp

-- names ascend, and none comes twice
abbrev pub NamesAscend : List (List ℕ) → Type 0
NamesAscend names = IsStrictlySortedBy name_order names

-- patterns ascend by their bytes, and none comes twice
abbrev pub PatternsAscend : List (List ℕ) → Type 0
PatternsAscend patterns = IsStrictlySortedBy (slice_cmp nat_cmp) patterns

-- the zone of this name
abbrev pub zone_named : List ℕ → Zones → Option ZoneTable
zone_named name zones = lookup (bytes_eq name) zones

abbrev pub rows_of : Option ZoneTable → List ZoneRow
rows_of None = []
rows_of (Some table) = table.rows

abbrev pub patterns_of : Option ZoneTable → List (List ℕ)
patterns_of None = []
patterns_of (Some table) = table.patterns

-- The published content is in order, and so are the names of each client's zones, so that each zone is there
-- once.
pub record AreInOrder (tables : Tables) : Type 0 where
  pub content : catalogue.IsInOrder tables.content
  pub zones : (client : List ℕ) → NamesAscend (keys_of (tables.zones client))
