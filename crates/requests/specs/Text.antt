-- Texts of a head: cut at a byte, trimmed, listed, and read as numbers (RFC 9110, section 5.6).
use Rattle.std.specs.Prelude.{ℕ, ◌+◌, ◌-◌, ◌==◌, ◌&&◌, ◌||◌, not, Bool, false, List, [], ◌∷◌, length, take, drop, nat_lt, if◌then◌else◌}
use Rattle.std.specs.Char.{is_ascii_digit}
use Rattle.std.specs.List.{list_all, list_any, prefix_len, suffix_len}
use Rattle.std.specs.Str.{str_eq_ignore_ascii_case}

-- the bytes begin with this one
abbrev pub begins_with : ℕ → List ℕ → Bool
begins_with byte [] = false
begins_with byte (b ∷ bytes) = b == byte

-- the number of bytes before the first of this kind
abbrev pub before_len : ℕ → List ℕ → ℕ
before_len byte text = prefix_len (λ b. not (b == byte)) text

-- the text before the first of this kind, or the whole text if there is none
abbrev pub before : ℕ → List ℕ → List ℕ
before byte text = take (before_len byte text) text

-- the text after it; empty if there is none
abbrev pub after : ℕ → List ℕ → List ℕ
after byte text = drop (before_len byte text + 1) text

-- a blank or a tab
abbrev pub is_blank : ℕ → Bool
is_blank b = b == 32 || b == 9

abbrev pub trim_start : List ℕ → List ℕ
trim_start text = drop (prefix_len is_blank text) text

abbrev pub trim_end : List ℕ → List ℕ
trim_end text = take (length text - suffix_len is_blank text) text

-- a text without the blanks and tabs at both ends
abbrev pub trimmed : List ℕ → List ℕ
trimmed text = trim_end (trim_start text)

-- the elements of a comma list: the texts between its commas
abbrev pub comma : ℕ
comma = 44

abbrev pub with_first : ℕ → List (List ℕ) → List (List ℕ)
with_first b [] = (b ∷ []) ∷ []
with_first b (element ∷ rest) = (b ∷ element) ∷ rest

abbrev pub elements : List ℕ → List (List ℕ)
elements [] = [] ∷ []
elements (b ∷ text) = if b == comma then [] ∷ elements text else with_first b (elements text)

-- an element is this word, without regard to ASCII case and to blanks around it
abbrev pub is_word : List ℕ → List ℕ → Bool
is_word word element = str_eq_ignore_ascii_case (trimmed element) word

-- a comma list has this word among its elements
abbrev pub has_word : List ℕ → List ℕ → Bool
has_word word list = list_any (is_word word) (elements list)

-- one or more digits
abbrev pub is_number : List ℕ → Bool
is_number text = nat_lt 0 (length text) && list_all is_ascii_digit text
