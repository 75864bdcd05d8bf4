-- Patterns of fix categories: a category, or the beginning of some, perhaps empty, and a final `*`.
use Rattle.std.specs.Prelude.{ℕ, ◌-◌, ◌==◌, ◌&&◌, Bool, not, List, [], ◌∷◌, map, length, take, drop, nat_eq, Option, Some, None, if◌then◌else◌}
use Rattle.std.specs.Char.{to_ascii_lowercase}
use Rattle.std.specs.List.{list_any, starts_with}
use Rattle.std.specs.Str.{bytes_eq}
use Rattle.mcs_reader.specs.Category.{is_category}

-- the text before a final `*`, if it ends so
abbrev pub open_stem : List ℕ → Option (List ℕ)
open_stem text =
    if bytes_eq (drop (length text - 1) text) (0x2A ∷ []) then Some (take (length text - 1) text) else None

-- a text that a category may have, with no `*` but at the end
abbrev pub is_pattern : List ℕ → Bool
is_pattern text = is_category text && not (list_any (λ b. b == 0x2A) (take (length text - 1) text))

-- the pattern with a text, if it is one
abbrev pub pattern_of : List ℕ → Option (List ℕ)
pattern_of text = if is_pattern text then Some text else None

-- a text in small letters, as far as ASCII goes
abbrev pub in_small_letters : List ℕ → List ℕ
in_small_letters text = map to_ascii_lowercase text

-- whether two texts are equal without regard to ASCII case, and whether the first begins with the second so
abbrev pub equals : List ℕ → List ℕ → Bool
equals category text = bytes_eq (in_small_letters category) (in_small_letters text)

abbrev pub begins_with : List ℕ → List ℕ → Bool
begins_with category stem = starts_with nat_eq (in_small_letters category) (in_small_letters stem)

-- whether a category matches a pattern: it equals it, or begins with the text before a final `*`
abbrev pub matches_stem : List ℕ → List ℕ → Option (List ℕ) → Bool
matches_stem pattern category None = equals category pattern
matches_stem pattern category (Some stem) = begins_with category stem

abbrev pub does_match : List ℕ → List ℕ → Bool
does_match pattern category = matches_stem pattern category (open_stem pattern)
