-- Ids in order. A contract sees an id as its seven bytes.
use Rattle.std.specs.Prelude.{ℕ, Bool, List, []}
use Rattle.std.specs.BTreeSet.{insert_key}
use Rattle.std.specs.Cmp.Lexicographic.{slice_cmp}
use Rattle.std.specs.List.{fold}
use Rattle.std.specs.List.Sorted.{IsStrictlySortedBy}
use Rattle.std.specs.Ordering.{nat_cmp}
use Rattle.std.specs.Str.{bytes_eq}
use Rattle.std.specs.declared.cmp.Ordering.{Ordering}

-- the order of ids is that of their bytes
abbrev pub id_cmp : List ℕ → List ℕ → Ordering
id_cmp = slice_cmp nat_cmp

-- whether two ids are one
abbrev pub same_id : List ℕ → List ℕ → Bool
same_id = bytes_eq

-- ids ascend, each once
abbrev pub Ascend : List (List ℕ) → Type 0
Ascend ids = IsStrictlySortedBy id_cmp ids

-- more ids put among ids in order, each in its place unless it is there
abbrev pub put_among : List (List ℕ) → List (List ℕ) → List (List ℕ)
put_among ids more = fold (insert_key id_cmp) ids more

-- ids in ascending order, each once
abbrev pub in_order : List (List ℕ) → List (List ℕ)
in_order ids = put_among [] ids
