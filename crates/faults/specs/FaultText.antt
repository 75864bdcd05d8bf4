-- The line that tells a fault.
use Rattle.std.specs.Prelude.{ℕ, List, [], ◌++◌, codes, decimal, Option, Some, None}
use Rattle.faults.specs.declared.any.AnyFault.{AnyFault}

-- a blank and the place, if there is one
abbrev pub place_text : Option ℕ → List ℕ
place_text (Some place) = codes " " ++ decimal place
place_text None = []

-- the line of a fault: its number and its place
abbrev pub text_of : AnyFault → List ℕ
text_of fault = codes "FAULT " ++ decimal fault.number ++ place_text fault.place ++ codes "\n"
