-- A zone's list: its SYSMODs and their states.
use Rattle.std.specs.Prelude.{◌≡◌, ◌⊎◌, ℕ, ◌&&◌, Bool, true, false, not, List, [], ◌∷◌, map, Option, Some, None, Result, Ok, Err, codes, if◌then◌else◌}
use Rattle.std.specs.Cmp.Lexicographic.{slice_cmp}
use Rattle.std.specs.List.Sorted.{IsStrictlySortedBy}
use Rattle.std.specs.Ordering.{nat_cmp}
use Rattle.std.specs.Str.{bytes_eq}
use Rattle.std.specs.declared.cmp.Ordering.{Ordering}
use Rattle.mcs_reader.specs.Id.{id_of}
use Rattle.zone_lists.specs.Fields.{Record, trimmed, two_fields}
use Rattle.zone_lists.specs.Header.{are_names}
use Rattle.zone_lists.specs.Lists.{ListKind, Numbered, answer, records_of}
use Rattle.zone_lists.specs.declared.fault.ListFault.{ListFault}
use Rattle.zone_lists.specs.declared.fault.ListFault.TheVariants.{BadRecord, BadId, BadState}
use Rattle.zone_lists.specs.declared.zones.ZoneRow.{ZoneRow}
use Rattle.zone_lists.specs.declared.zones.ZoneState.{ZoneState}
use Rattle.zone_lists.specs.declared.zones.ZoneState.TheVariants.{Applied, Accepted, Superseded}

-- the state with this name
abbrev pub state_of : List ℕ → Option ZoneState
state_of name =
    if bytes_eq name (codes "APPLIED") then Some Applied
    else if bytes_eq name (codes "ACCEPTED") then Some Accepted
    else if bytes_eq name (codes "SUPERSEDED") then Some Superseded
    else None

-- a row of an id and a state, the id's fault before the state's
abbrev pub zone_row : Option (List ℕ) → Option ZoneState → Result ZoneRow Numbered
zone_row None state = Err BadId
zone_row (Some sysmod) None = Err BadState
zone_row (Some sysmod) (Some state) = Ok (record { sysmod = sysmod; state = state })

-- the row that the fields of a record stand for
abbrev pub zone_fields : Option (List ℕ × List ℕ) → Result ZoneRow Numbered
zone_fields None = Err BadRecord
zone_fields (Some fields) = zone_row (id_of fields.0) (state_of fields.1)

-- the order of rows is that of their SYSMODs
abbrev pub row_order : ZoneRow → ZoneRow → Ordering
row_order a b = slice_cmp nat_cmp a.sysmod b.sysmod

-- whether two states are the same
abbrev pub same_state : ZoneState → ZoneState → Bool
same_state Applied Applied = true
same_state Accepted Accepted = true
same_state Superseded Superseded = true
same_state Applied Accepted = false
same_state Applied Superseded = false
same_state Accepted Applied = false
same_state Accepted Superseded = false
same_state Superseded Applied = false
same_state Superseded Accepted = false

-- the same SYSMOD with another state
abbrev pub other_state : ZoneRow → ZoneRow → Bool
other_state a b = bytes_eq a.sysmod b.sysmod && not (same_state a.state b.state)

-- a zone's list, of at most 40,000 records below the header SYSMOD,STATE
abbrev pub zone_list : ListKind ZoneRow
zone_list = record {
  is_header = λ fields. are_names (codes "SYSMOD") (codes "STATE") (two_fields fields);
  limit = 40000;
  entry = λ fields. zone_fields (two_fields fields);
  order = row_order;
  contradicts = other_state;
}

-- each fault of a record of a zone's list by itself
abbrev pub IsZoneFault : ℕ → Record → ListFault → Type 0
IsZoneFault n (id ∷ state ∷ []) fault =
    ((fault ≡ BadId n) × (id_of (trimmed id) ≡ None)) ⊎ ((fault ≡ BadState n) × (state_of (trimmed state) ≡ None))
IsZoneFault n [] fault = fault ≡ BadRecord n
IsZoneFault n (only ∷ []) fault = fault ≡ BadRecord n
IsZoneFault n (first ∷ second ∷ third ∷ more) fault = fault ≡ BadRecord n

-- the reading of a text as a zone's list: the rows in order, or its first fault
abbrev pub zone_rows_of : List ℕ → Result (List ZoneRow) ListFault
zone_rows_of text = answer zone_list (records_of text)

-- rows ascend by their SYSMODs, each of which comes once
abbrev pub RowsAscend : List ZoneRow → Type 0
RowsAscend rows = IsStrictlySortedBy (slice_cmp nat_cmp) (map (λ row. row.sysmod) rows)
