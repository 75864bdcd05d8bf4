-- No part of what is promised: private contracts cite it. A plain machine that reads a text line by line. If a line's head
-- names a verb, it reads a statement, and else it passes the line over. The first argument bounds how many of these steps it
-- takes.
use Rattle.std.specs.Prelude.{◌≡◌, ℕ, zero, suc, ◌+◌, ◌-◌, ◌<◌, false, List, [], ◌∷◌, length, Option, Some, None, Ok, Err}
use Rattle.mcs_reader.specs.Line.{line_ends}
use Rattle.mcs_reader.specs.declared.statement.Statement.{Statement}
use Rattle.mcs_reader.specs.declared.statement.Verb.{Verb}
use Rattle.mcs_reader.specs.Pieces.{a_name}
use Rattle.mcs_reader.specs.Scan.{scan, Stated, stated}
use Rattle.mcs_reader.specs.Position.{Position, after_line, verb_at}
use Rattle.mcs_reader.specs.Unread.{Read, with_statements}

-- what comes after a statement
abbrev pub go_on : (ℕ → List ℕ → Read) → ℕ → List ℕ → Stated → Read
go_on next line text (Err fault) = Err fault
go_on next line text (Ok (statement, rest)) = with_statements (statement ∷ []) (next (line + (line_ends text - line_ends (after_line rest))) (after_line rest))

-- one step, at a line's beginning
abbrev pub at_verb : (ℕ → List ℕ → Read) → ℕ → List ℕ → Option (Verb × List ℕ) → Read
at_verb next line text None = next (line + 1) (after_line text)
at_verb next line text (Some (verb, after)) = go_on next line text (stated verb line (scan line zero a_name false after))

unfoldable pub read_lines : ℕ → ℕ → List ℕ → Read
read_lines zero line text = Ok []
read_lines (suc n) line [] = Ok []
read_lines (suc n) line (b ∷ text) = at_verb (read_lines n) line (b ∷ text) (verb_at (b ∷ text))

-- what the machine makes of a whole text
abbrev pub read_text : List ℕ → Read
read_text text = read_lines (length text) 1 text

-- what the machine makes of the lines after the one on which a position lies
abbrev pub read_after : Position → Read
read_after position = read_lines (length (after_line position.text)) (position.line + 1) (after_line position.text)

-- the statement is the first after one position, and another position, further on, stands after it
pub record GivesNext (before : Position) (statement : Statement) (now : Position) : Type 0 where
  pub first : read_after before ≡ with_statements (statement ∷ []) (read_after now)
  pub further : length now.text < length before.text
