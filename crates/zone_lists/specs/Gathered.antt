-- No part of what is promised: private contracts cite it. The entries of a list that were read so far.
use Rattle.std.specs.Prelude.{◌≡◌, ℕ, Bool, false, not, List, map, Option, Some, None}
use Rattle.std.specs.BTreeMap.{is_at}
use Rattle.std.specs.Cmp.Lexicographic.{slice_cmp}
use Rattle.std.specs.List.{list_any}
use Rattle.std.specs.Map.{lookup}
use Rattle.std.specs.Ordering.{nat_cmp}
use Rattle.zone_lists.specs.Lists.{in_order}
use Rattle.zone_lists.specs.ZoneList.{other_state, same_state, zone_list}
use Rattle.zone_lists.specs.declared.zones.ZoneRow.{ZoneRow}
use Rattle.zone_lists.specs.declared.zones.ZoneState.{ZoneState}

-- a row as a map's entry, the state at its SYSMOD
abbrev pub row_of : List ℕ × ZoneState → ZoneRow
row_of entry = record { sysmod = entry.0; state = entry.1 }

-- the state that a map has at an id
abbrev pub state_at : List ℕ → List (List ℕ × ZoneState) → Option ZoneState
state_at id entries = lookup (is_at (slice_cmp nat_cmp id)) entries

-- whether the state that a SYSMOD came with before, if it did, is another one
abbrev pub has_other_state : ZoneState → Option ZoneState → Bool
has_other_state state None = false
has_other_state state (Some before) = not (same_state state before)

-- a map has the rows that came, in order, and says what a row contradicts
pub record HasRows (entries : List (List ℕ × ZoneState)) (came : List ZoneRow) : Type 0 where
  pub listed : map row_of entries ≡ in_order zone_list came
  pub agrees : (row : ZoneRow) → list_any (other_state row) came ≡ has_other_state row.state (state_at row.sysmod entries)
