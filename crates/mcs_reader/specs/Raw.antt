-- The list of an operand COMMENT (SMP/E Reference, `++HOLD`, operand COMMENT): text in which only
-- parentheses count.
use Rattle.std.specs.Prelude.{◌≡◌, ℕ, Bool, false, ◌==◌, ◌||◌, List, [], ◌∷◌, ◌++◌}

-- Nothing; or a byte that is no parenthesis, or text in matching parentheses, and the text after it.
pub data Raw : Type 0 where
  raw_end : Raw
  raw_byte : ℕ → Raw → Raw
  raw_nested : Raw → Raw → Raw

abbrev pub is_parenthesis : ℕ → Bool
is_parenthesis b = b == 40 || b == 41

-- the bytes that the text stands for
abbrev pub spell_raw : Raw → List ℕ
spell_raw raw_end = []
spell_raw (raw_byte b rest) = b ∷ spell_raw rest
spell_raw (raw_nested inside rest) = 40 ∷ (spell_raw inside ++ 41 ∷ spell_raw rest)

abbrev pub IsRaw : Raw → Type 0
IsRaw raw_end = Unit {0}
IsRaw (raw_byte b rest) = (is_parenthesis b ≡ false) × IsRaw rest
IsRaw (raw_nested inside rest) = IsRaw inside × IsRaw rest

-- such text with an opening parenthesis between each two
abbrev pub spell_raw_open : Raw → List Raw → List ℕ
spell_raw_open raw [] = spell_raw raw
spell_raw_open raw (deeper ∷ more) = spell_raw raw ++ 40 ∷ spell_raw_open deeper more

abbrev pub AllRaw : List Raw → Type 0
AllRaw [] = Unit {0}
AllRaw (raw ∷ more) = IsRaw raw × AllRaw more
