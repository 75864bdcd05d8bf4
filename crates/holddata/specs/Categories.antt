-- Fix categories (IBM z/OS SMP/E Reference, `++HOLD`, operand CATEGORY).
use Rattle.std.specs.Prelude.{◌≡◌, ℕ, ◌&&◌, Bool, true, IsTrue, List, [], ◌∷◌, bytes_eq}
use Rattle.std.specs.BTreeSet.{insert_key}
use Rattle.std.specs.List.{fold, list_all, list_any}
use Rattle.std.specs.Ordering.{nat_cmp, is_lt}
use Rattle.std.specs.Cmp.Lexicographic.{slice_cmp}
use Rattle.mcs_reader.specs.Category.{is_category}

-- each text is below the next, byte by byte
abbrev pub ascends : List (List ℕ) → Bool
ascends [] = true
ascends (x ∷ []) = true
ascends (x ∷ y ∷ rest) = is_lt (slice_cmp nat_cmp x y) && ascends (y ∷ rest)

-- categories in ascending order, each once
abbrev pub are_categories : List (List ℕ) → Bool
are_categories texts = list_all is_category texts && ascends texts

-- texts in ascending order, with more put where they belong, unless they are there
abbrev pub with_each : List (List ℕ) → List (List ℕ) → List (List ℕ)
with_each kept texts = fold (insert_key (slice_cmp nat_cmp)) kept texts

-- texts in ascending order, each once
abbrev pub in_order : List (List ℕ) → List (List ℕ)
in_order texts = with_each [] texts

-- the list ascends and has the same texts
pub record IsInOrder (texts kept : List (List ℕ)) : Type 0 where
  pub ascending : IsTrue (ascends kept)
  pub same : (text : List ℕ) → list_any (bytes_eq text) kept ≡ list_any (bytes_eq text) texts
