-- No part of what is promised: private contracts cite it. Rows in one list.
use Rattle.std.specs.Prelude.{◌≡◌, ◌≤◌, ℕ, zero, suc, List, [], ◌∷◌, map, replicate, slice_index}
use Rattle.std.specs.List.{slice_range}

-- the rows of a list of entries: the first goes from a start to the first end, where the next one starts
abbrev pub rows_from : List ℕ → ℕ → List ℕ → List (List ℕ)
rows_from entries start [] = []
rows_from entries start (end ∷ ends) = slice_range entries start end ∷ rows_from entries end ends

-- the ends of rows from a start on: each is no less than the one before, and the last is where the entries end
abbrev pub AreEnds : ℕ → List ℕ → ℕ → Type 0
AreEnds start [] len = start ≡ len
AreEnds start (end ∷ ends) len = (start ≤ end) × AreEnds end ends len

-- the index at which the row of a node starts
abbrev pub start_at : ℕ → List ℕ → ℕ → ℕ
start_at start ends zero = start
start_at start ends (suc node) = slice_index ends node

-- for each count a row of so many nodes 0
abbrev pub blank_rows : List ℕ → List (List ℕ)
blank_rows counts = map (λ count. replicate count 0) counts
