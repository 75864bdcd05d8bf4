-- The header of a list: the names of its columns.
use Rattle.std.specs.Prelude.{ℕ, ◌&&◌, Bool, false, List, Option, Some, None}
use Rattle.std.specs.Str.{bytes_eq}

-- whether the field of a record of one field is this name
abbrev pub is_name : List ℕ → Option (List ℕ) → Bool
is_name name None = false
is_name name (Some field) = bytes_eq field name

-- whether the fields of a record of two fields are these names
abbrev pub are_names : List ℕ → List ℕ → Option (List ℕ × List ℕ) → Bool
are_names first second None = false
are_names first second (Some fields) = bytes_eq fields.0 first && bytes_eq fields.1 second
