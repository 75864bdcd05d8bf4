-- No part of what is promised: private contracts cite it. Categories in one text, with commas between.
use Rattle.std.specs.Prelude.{ℕ, Bool, ◌==◌, List, [], ◌∷◌}
use Rattle.std.specs.List.{slice_split}

abbrev pub is_comma : ℕ → Bool
is_comma b = b == 44

-- the parts between the commas; none of an empty text
abbrev pub between_commas : List ℕ → List (List ℕ)
between_commas [] = []
between_commas (b ∷ bytes) = slice_split is_comma (b ∷ bytes)
