-- Slices of the source as the bytes that stand in them.
use Rattle.std.specs.Prelude.{ℕ, List, map}
use Rattle.std.specs.Borrow.{Bor}

-- the bytes of each slice
abbrev pub bytes_of_each : List (Bor (List ℕ)) → List (List ℕ)
bytes_of_each slices = map (λ slice. slice.now) slices
