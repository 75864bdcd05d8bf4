-- No part of what is promised: private contracts cite it. The longest run of bytes from a position on, and the text after
-- it.
use Rattle.std.specs.Prelude.{ℕ, Bool, false, List, [], ◌∷◌, if◌then◌else◌}
use Rattle.mcs_reader.specs.Byte.{belongs_to_value}
use Rattle.mcs_reader.specs.Comment.{role_here}

-- of bytes of a kind
abbrev pub run : (ℕ → Bool) → List ℕ → List ℕ
run test [] = []
run test (b ∷ text) = if test b then b ∷ run test text else []

abbrev pub after_run : (ℕ → Bool) → List ℕ → List ℕ
after_run test [] = []
after_run test (b ∷ text) = if test b then after_run test text else b ∷ text

-- a value goes on here: no comment begins
abbrev pub begins_value : List ℕ → Bool
begins_value [] = false
begins_value (b ∷ text) = belongs_to_value (role_here b text)

-- of bytes of a value
abbrev pub value_run : List ℕ → List ℕ
value_run [] = []
value_run (b ∷ text) = if begins_value (b ∷ text) then b ∷ value_run text else []

abbrev pub after_value : List ℕ → List ℕ
after_value [] = []
after_value (b ∷ text) = if begins_value (b ∷ text) then after_value text else b ∷ text
