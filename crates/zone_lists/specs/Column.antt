-- A list of one column.
use Rattle.std.specs.Prelude.{◌≡◌, ℕ, List, [], ◌∷◌, Option, Some, None, Result, Err}
use Rattle.std.specs.Cmp.Lexicographic.{slice_cmp}
use Rattle.std.specs.Ordering.{nat_cmp}
use Rattle.zone_lists.specs.Fields.{Record, one_field, trimmed}
use Rattle.zone_lists.specs.Header.{is_name}
use Rattle.zone_lists.specs.Lists.{ListKind, Numbered, never}
use Rattle.zone_lists.specs.declared.fault.ListFault.{ListFault}
use Rattle.zone_lists.specs.declared.fault.ListFault.TheVariants.{BadRecord}

-- the entry that a record stands for, by its field
abbrev pub column_field : (List ℕ → Result (List ℕ) Numbered) → Option (List ℕ) → Result (List ℕ) Numbered
column_field read None = Err BadRecord
column_field read (Some field) = read field

-- a list below this header of at most so many records, each with one field; its entries ascend, each once
abbrev pub column_list : List ℕ → ℕ → (List ℕ → Result (List ℕ) Numbered) → ListKind (List ℕ)
column_list header limit read = record {
  is_header = λ fields. is_name header (one_field fields);
  limit = limit;
  entry = λ fields. column_field read (one_field fields);
  order = slice_cmp nat_cmp;
  contradicts = never;
}

-- each fault of a record of such a list by itself: its field is bad, or it has not one field
abbrev pub IsColumnFault : Numbered → (List ℕ → Type 0) → ℕ → Record → ListFault → Type 0
IsColumnFault bad IsBad n (field ∷ []) fault = (fault ≡ bad n) × IsBad (trimmed field)
IsColumnFault bad IsBad n [] fault = fault ≡ BadRecord n
IsColumnFault bad IsBad n (first ∷ second ∷ more) fault = fault ≡ BadRecord n
