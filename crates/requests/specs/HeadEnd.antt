-- The end of a request's head in the bytes of a connection (RFC 9112, sections 2.1 and 2.2).
use Rattle.std.specs.Prelude.{ℕ, ◌≤◌, ◌+◌, ◌-◌, ◌==◌, ◌&&◌, ◌||◌, Bool, List, [], ◌∷◌, length, filter, take, drop, nat_lt, nat_le, Option, Some, None, option_map, if◌then◌else◌}
use Rattle.requests.specs.Text.{begins_with}
use Rattle.requests.specs.declared.front.Front.{Front}
use Rattle.requests.specs.declared.front.Front.TheVariants.{Head, CleanEnd, EndInside, TooLarge}

-- LF, and CR
abbrev pub line_feed : ℕ
line_feed = 10

abbrev pub carriage_return : ℕ
carriage_return = 13

-- the number of bytes of the line end with which the bytes begin: LF or CRLF, and 0 if there is none
abbrev pub line_end_len : List ℕ → ℕ
line_end_len [] = 0
line_end_len (b ∷ bytes) =
    if b == line_feed then 1 else if b == carriage_return && begins_with line_feed bytes then 2 else 0

-- a byte is one of an empty line, with these bytes after it: LF, or CR before LF
abbrev pub is_in_empty_line : ℕ → List ℕ → Bool
is_in_empty_line b after = b == line_feed || (b == carriage_return && begins_with line_feed after)

-- the number of bytes of the empty lines with which the bytes begin
abbrev pub empty_lines_len : List ℕ → ℕ
empty_lines_len [] = 0
empty_lines_len (b ∷ bytes) =
    if is_in_empty_line b bytes then 1 + empty_lines_len bytes else 0

-- the bytes after the empty lines
abbrev pub without_empty_lines : List ℕ → List ℕ
without_empty_lines bytes = drop (empty_lines_len bytes) bytes

-- the number of LFs
abbrev pub feeds : List ℕ → ℕ
feeds bytes = length (filter (λ b. b == line_feed) bytes)

-- the number of lines that a head has between its first and its blank one
abbrev pub lines_between : List ℕ → ℕ
lines_between bytes = feeds (without_empty_lines bytes) - 2

-- the number of bytes of a head, with its blank line: it ends with the first LF that a line end follows
abbrev pub head_len : List ℕ → Option ℕ
head_len [] = None
head_len (b ∷ bytes) =
    if b == line_feed && nat_lt 0 (line_end_len bytes) then Some (1 + line_end_len bytes)
    else option_map (λ n. 1 + n) (head_len bytes)

-- empty lines and the head after them, in bytes
abbrev pub whole_len : List ℕ → Option ℕ
whole_len bytes =
    option_map (λ n. empty_lines_len bytes + n) (head_len (drop (empty_lines_len bytes) bytes))

-- the front without a head's end among the bytes that a head may have
abbrev pub without_end : ℕ → List ℕ → Front
without_end limit bytes =
    if nat_le limit (length bytes) then TooLarge
    else if empty_lines_len bytes == length bytes then CleanEnd
    else EndInside

abbrev pub front_with : Option ℕ → ℕ → List ℕ → Front
front_with (Some n) limit bytes = Head n
front_with None limit bytes = without_end limit bytes

-- the front of bytes in which a head, with the empty lines before it, may have `limit` bytes
abbrev pub front_of : ℕ → List ℕ → Front
front_of limit bytes = front_with (whole_len (take limit bytes)) limit bytes

-- the most bytes of a head, with the empty lines before it
unfoldable pub head_limit : ℕ
head_limit = 16384

-- a whole head lies in the bytes, and is no longer than a head may be
abbrev pub EndsWithin : Front → List ℕ → Type 0
EndsWithin (Head n) bytes = (n ≤ length bytes) × (n ≤ 16384)
EndsWithin CleanEnd bytes = Unit {0}
EndsWithin EndInside bytes = Unit {0}
EndsWithin TooLarge bytes = Unit {0}

-- a front that more bytes don't change, since a head is whole or too long
abbrev pub IsAtHand : Front → Type 0
IsAtHand (Head n) = Unit {0}
IsAtHand CleanEnd = ⊥
IsAtHand EndInside = ⊥
IsAtHand TooLarge = Unit {0}
