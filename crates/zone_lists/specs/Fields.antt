-- The fields of a record, without the blanks around them.
use Rattle.std.specs.Prelude.{ℕ, ◌-◌, ◌==◌, ◌||◌, Bool, List, [], ◌∷◌, length, take, drop, Option, Some, None}
use Rattle.std.specs.List.{prefix_len, suffix_len}

-- the fields of a record
abbrev pub Record : Type 0
Record = List (List ℕ)

-- a space or a tab
abbrev pub is_blank : ℕ → Bool
is_blank b = b == 32 || b == 9

-- a field without the blanks that it begins with
abbrev pub trim_start : List ℕ → List ℕ
trim_start field = drop (prefix_len is_blank field) field

-- a field without the blanks that it ends with
abbrev pub trim_end : List ℕ → List ℕ
trim_end field = take (length field - suffix_len is_blank field) field

-- a field without the blanks at both ends
abbrev pub trimmed : List ℕ → List ℕ
trimmed field = trim_end (trim_start field)

-- the field of a record of one field
abbrev pub one_field : Record → Option (List ℕ)
one_field (field ∷ []) = Some (trimmed field)
one_field [] = None
one_field (field ∷ other ∷ more) = None

-- the fields of a record of two fields
abbrev pub two_fields : Record → Option (List ℕ × List ℕ)
two_fields (first ∷ second ∷ []) = Some (trimmed first, trimmed second)
two_fields [] = None
two_fields (first ∷ []) = None
two_fields (first ∷ second ∷ third ∷ more) = None
