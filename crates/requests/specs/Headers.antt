-- The header fields of a request (RFC 9110, section 5), as pairs of a name and of a value without the blanks around it.
use Rattle.std.specs.Prelude.{ℕ, ◌&&◌, Bool, List, [], ◌∷◌, length, map, All, codes, Option, Some, None, if◌then◌else◌}
use Rattle.std.specs.List.{filter_map, list_any}
use Rattle.std.specs.Str.{str_eq_ignore_ascii_case}
use Rattle.httparse.specs.Spans.{IsHeaderWithin, header_bytes}
use Rattle.httparse.specs.declared.spans.HeaderSpan.{HeaderSpan}
use Rattle.requests.specs.Text.{has_word}

-- a field: its name and its value
abbrev pub Pair : Type 0
Pair = List ℕ × List ℕ

-- the field has this name, without regard to ASCII case
abbrev pub is_named : List ℕ → Pair → Bool
is_named name field = str_eq_ignore_ascii_case field.0 name

abbrev pub value_if_named : List ℕ → Pair → Option (List ℕ)
value_if_named name field = if is_named name field then Some field.1 else None

-- the values of the fields with this name, in order
abbrev pub values : List ℕ → List Pair → List (List ℕ)
values name fields = filter_map (value_if_named name) fields

-- the value if there is just one
abbrev pub sole : List (List ℕ) → Option (List ℕ)
sole [] = None
sole (value ∷ []) = Some value
sole (value ∷ other ∷ more) = None

-- the value of the field with this name, if there is just one
abbrev pub sole_value : List ℕ → List Pair → Option (List ℕ)
sole_value name fields = sole (values name fields)

-- some field has this name
abbrev pub has : List ℕ → List Pair → Bool
has name fields = list_any (is_named name) fields

-- a `connection` field that asks to close the connection (RFC 9112, section 9.6)
abbrev pub asks_to_close : Pair → Bool
asks_to_close field = is_named (codes "connection") field && has_word (codes "close") field.1

-- the fields that spans cover in bytes, which they lie in
abbrev pub pairs_at : List ℕ → List HeaderSpan → List Pair
pairs_at bytes spans = map (header_bytes bytes) spans

abbrev pub AreWithin : List ℕ → List HeaderSpan → Type 0
AreWithin bytes spans = All (IsHeaderWithin (length bytes)) spans
