-- Ids: the names of SYSMODs, FMIDs, reasons, classes, zones and callers.
use Rattle.std.specs.Prelude.{◌≡◌, ℕ, ◌+◌, ◌-◌, ◌*◌, ◌==◌, ◌||◌, ◌&&◌, Bool, List, [], ◌∷◌, ◌++◌, length, replicate, nat_le, IsTrue, Option, Some, None, if◌then◌else◌}
use Rattle.std.specs.List.{list_all}

-- A to Z, 0 to 9, @, # and $
abbrev pub is_id_byte : ℕ → Bool
is_id_byte b = (nat_le 65 b && nat_le b 90) || (nat_le 48 b && nat_le b 57) || b == 64 || b == 35 || b == 36

-- an id's text: 1 to 7 such bytes
abbrev pub is_id_text : List ℕ → Bool
is_id_text t = nat_le 1 (length t) && nat_le (length t) 7 && list_all is_id_byte t

-- a text with blanks after it, seven bytes in all
abbrev pub padded : List ℕ → List ℕ
padded t = t ++ replicate (7 - length t) 32

-- the id that has a text, if one does
abbrev pub id_of : List ℕ → Option (List ℕ)
id_of t = if is_id_text t then Some (padded t) else None

-- the text before the blanks
abbrev pub text_of : List ℕ → List ℕ
text_of [] = []
text_of (b ∷ bs) = if b == 32 then [] else b ∷ text_of bs

-- the seven bytes of an id: an id's text, padded
abbrev pub IsId : List ℕ → Type 0
IsId bytes = IsTrue (is_id_text (text_of bytes)) × (bytes ≡ padded (text_of bytes))

-- Serves private contracts alone: the number whose digits to the base 256 the bytes are, after those of n.
abbrev pub number : ℕ → List ℕ → ℕ
number n [] = n
number n (b ∷ bs) = number (n * 256 + b) bs
