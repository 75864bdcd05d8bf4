-- No part of what is promised: private contracts cite it. How a client's tables are kept.
use Rattle.std.specs.Prelude.{◌≡◌, ℕ, List}
use Rattle.std.specs.BTreeMap.{insert_entry, is_at}
use Rattle.std.specs.Cmp.Lexicographic.{slice_cmp}
use Rattle.std.specs.Map.{lookup}
use Rattle.std.specs.Ordering.{nat_cmp}
use Rattle.zone_lists.specs.declared.zones.ZoneRow.{ZoneRow}
use Rattle.bureau_store.specs.Lists.{ClientTable}
use Rattle.bureau_store.specs.Tables.{LastChange, ZoneTable, Zones, name_order, patterns_of, rows_of, zone_named}
use Rattle.bureau_store.specs.Caller.{caller_with}
use Rattle.bureau_store.specs.SetCallers.{token_of}
use Rattle.bureau_store.specs.declared.caller.Caller.{Caller}
use Rattle.bureau_store.specs.declared.caller.CallerRow.{CallerRow}

-- the rows of a zone, as a map of zones finds it
abbrev pub rows_at : List ℕ → Zones → List ZoneRow
rows_at zone zones = rows_of (zone_named zone zones)

abbrev pub patterns_at : List ℕ → Zones → List (List ℕ)
patterns_at zone zones = patterns_of (zone_named zone zones)

-- a client's tables after a change that puts the rows and patterns of a zone
abbrev pub with_zone : List ℕ → ZoneTable → LastChange → ClientTable → ClientTable
with_zone name zone last client = record client { last = last; zones = insert_entry name_order client.zones name zone }

-- a map finds under each token the first of these rows that has it
abbrev pub KnowsTokens : {Text : Type 0} → (Text → List ℕ) → List (Text × Caller) → List CallerRow → Type 0
KnowsTokens text_of entries rows = (token : List ℕ) → lookup (λ text. is_at (slice_cmp nat_cmp token) (text_of text)) entries ≡ caller_with rows token

-- a map has under each name the token of the caller of that name among these rows
abbrev pub KnowsNames : List (List ℕ × List ℕ) → List CallerRow → Type 0
KnowsNames entries rows = (name : List ℕ) → lookup (is_at (slice_cmp nat_cmp name)) entries ≡ token_of rows name
