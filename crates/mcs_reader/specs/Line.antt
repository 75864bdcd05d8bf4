-- The lines of a source, and the text that they join to (SMP/E Reference, "MCS coding rules").
use Rattle.std.specs.Prelude.{ℕ, Bool, false, ◌+◌, ◌==◌, List, [], ◌∷◌, ◌++◌, take, if◌then◌else◌}
use Rattle.std.specs.List.{flat_map}
use Rattle.mcs_reader.specs.Byte.{line_end}

-- the lines, with a byte in front of the first
abbrev pub with_front : ℕ → List (List ℕ) → List (List ℕ)
with_front b [] = (b ∷ []) ∷ []
with_front b (line ∷ lines) = (b ∷ line) ∷ lines

-- the source cut at each line end; a line end after which nothing stands begins no further line
abbrev pub lines : List ℕ → List (List ℕ)
lines [] = []
lines (b ∷ source) = if b == line_end then [] ∷ lines source else with_front b (lines source)

-- a line without the carriage return that ends it
abbrev pub without_return : List ℕ → List ℕ
without_return [] = []
without_return (b ∷ []) = if b == 13 then [] else b ∷ []
without_return (b ∷ c ∷ line) = b ∷ without_return (c ∷ line)

-- the part of a line that is read: columns 1 to 72
abbrev pub columns_1_to_72 : List ℕ → List ℕ
columns_1_to_72 line = take 72 (without_return line)

-- The text that is read: each line's columns and a line end, which counts as a blank does. So names
-- and values never go over a line, and the beginnings of lines can still be told.
abbrev pub text_of_lines : List (List ℕ) → List ℕ
text_of_lines read = flat_map (λ line. columns_1_to_72 line ++ line_end ∷ []) read

unfoldable pub text_of : List ℕ → List ℕ
text_of source = text_of_lines (lines source)

-- the number of lines that end in a text
abbrev pub line_ends : List ℕ → ℕ
line_ends [] = 0
line_ends (b ∷ text) = (if b == line_end then 1 else 0) + line_ends text

-- the text begins a statement if ++ stands in a line's columns 1 and 2
abbrev pub begins_statement : List ℕ → Bool
begins_statement [] = false
begins_statement (b ∷ []) = false
begins_statement (b ∷ c ∷ text) = if b == 43 then c == 43 else false
