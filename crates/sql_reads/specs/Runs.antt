-- Lists of SYSMODs whose rows are read at once.
use Rattle.std.specs.Prelude.{◌<◌, ℕ, List, length, map}
use Rattle.std.specs.Cmp.Lexicographic.{slice_cmp}
use Rattle.std.specs.List.Sorted.{IsStrictlySortedBy}
use Rattle.std.specs.Ordering.{nat_cmp}
use Rattle.mcs_reader.specs.Id.{text_of}

-- the texts of ids ascend byte for byte, each once
abbrev pub TextsAscend : List (List ℕ) → Type 0
TextsAscend ids = IsStrictlySortedBy (slice_cmp nat_cmp) (map text_of ids)

-- and there is one at least
pub record IsRun (ids : List (List ℕ)) : Type 0 where
  pub some : 0 < length ids
  pub ascend : TextsAscend ids
