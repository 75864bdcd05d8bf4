-- A text as a line of the log shows it.
use Rattle.std.specs.Prelude.{ℕ, ◌≤◌, ◌&&◌, List, [], ◌∷◌, length, map, take, nat_le, if◌then◌else◌}
use Rattle.std.specs.List.{AllByRecursion}

-- a printed character of ASCII that is no blank
abbrev pub IsShown : ℕ → Type 0
IsShown b = (33 ≤ b) × (b ≤ 126)

abbrev pub AreShown : List ℕ → Type 0
AreShown text = AllByRecursion IsShown text

-- a word: 1 to 64 of these
abbrev pub IsWord : List ℕ → Type 0
IsWord text = (1 ≤ length text) × (length text ≤ 64) × AreShown text

-- a byte as a line shows it: itself, or a question mark
abbrev pub shown : ℕ → ℕ
shown b = if nat_le 33 b && nat_le b 126 then b else 63

-- the word for no text
abbrev pub none : List ℕ
none = 45 ∷ []

-- a text as a line shows it: its first 64 bytes
abbrev pub word_of : List ℕ → List ℕ
word_of [] = none
word_of (b ∷ text) = map shown (take 64 (b ∷ text))
