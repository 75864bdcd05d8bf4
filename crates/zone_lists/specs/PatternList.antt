-- A list of patterns of fix categories.
use Rattle.std.specs.Prelude.{◌≡◌, ℕ, false, List, Option, Result, Ok, Err, codes, if◌then◌else◌}
use Rattle.zone_lists.specs.Column.{IsColumnFault, column_field, column_list}
use Rattle.zone_lists.specs.Fields.{Record}
use Rattle.zone_lists.specs.Lists.{ListKind, Numbered, answer, records_of}
use Rattle.zone_lists.specs.Pattern.{is_pattern}
use Rattle.zone_lists.specs.declared.fault.ListFault.{ListFault}
use Rattle.zone_lists.specs.declared.fault.ListFault.TheVariants.{BadPattern}

-- the pattern that a text is
abbrev pub pattern_read : List ℕ → Result (List ℕ) Numbered
pattern_read text = if is_pattern text then Ok text else Err BadPattern

-- the pattern that the field of a record is
abbrev pub pattern_field : Option (List ℕ) → Result (List ℕ) Numbered
pattern_field field = column_field pattern_read field

-- a list of patterns, at most 64, below the header CATEGORY
abbrev pub pattern_list : ListKind (List ℕ)
pattern_list = column_list (codes "CATEGORY") 64 pattern_read

-- each fault of a record of such a list by itself
abbrev pub IsPatternFault : ℕ → Record → ListFault → Type 0
IsPatternFault n fields fault = IsColumnFault BadPattern (λ text. is_pattern text ≡ false) n fields fault

-- the reading of a text as such a list: the patterns in order, or its first fault
abbrev pub patterns_of : List ℕ → Result (List (List ℕ)) ListFault
patterns_of text = answer pattern_list (records_of text)
