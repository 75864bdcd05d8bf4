-- A source's text as a row of segments: lines that are skipped, and statements.
use Rattle.std.specs.Prelude.{◌≡◌, ℕ, Bool, true, false, ◌==◌, not, ◌+◌, List, [], ◌∷◌, ◌++◌, Option, Some, None, IsTrue}
use Rattle.std.specs.List.{list_all, flat_map}
use Rattle.mcs_reader.specs.Byte.{line_end}
use Rattle.mcs_reader.specs.Line.{line_ends, begins_statement}
use Rattle.mcs_reader.specs.Verb.{Head, spell_head, IsHead, verb_named}
use Rattle.mcs_reader.specs.Pieces.{operands}
use Rattle.mcs_reader.specs.StatementText.{StatementText, IsStatementText, spell_statement, subject_in}
use Rattle.mcs_reader.specs.declared.statement.Statement.{Statement}

-- a line's text has no line end in it
abbrev pub IsLine : List ℕ → Type 0
IsLine line = IsTrue (list_all (λ b. not (b == line_end)) line)

-- a line that begins no statement
pub record IsPassed (line : List ℕ) : Type 0 where
  pub one_line : IsLine line
  pub no_statement : begins_statement line ≡ false

abbrev pub AllPassed : List (List ℕ) → Type 0
AllPassed [] = Unit {0}
AllPassed (line ∷ lines) = IsPassed line × AllPassed lines

-- A line between statements; a line that begins with ++ and names no known verb, as its head and the
-- rest of it, with the lines up to the next that begins with ++; or a statement with its subject, and
-- the rest of the line after its period, which is ignored.
pub data Segment : Type 0 where
  passed : List ℕ → Segment
  skipped : Head → List ℕ → List (List ℕ) → Segment
  stated : StatementText → Option (List ℕ) → List ℕ → Segment

abbrev pub spell_lines : List (List ℕ) → List ℕ
spell_lines lines = flat_map (λ line. line ++ line_end ∷ []) lines

abbrev pub spell_segment : Segment → List ℕ
spell_segment (passed line) = line ++ line_end ∷ []
spell_segment (skipped head rest lines) = spell_head head ++ (rest ++ line_end ∷ spell_lines lines)
spell_segment (stated text subject ignored) = spell_statement text ++ 46 ∷ (ignored ++ line_end ∷ [])

-- the text is at its end, or at a line that begins with ++
abbrev pub ends_or_begins_statement : List ℕ → Bool
ends_or_begins_statement [] = true
ends_or_begins_statement (b ∷ text) = begins_statement (b ∷ text)

-- what makes it a segment, if the text `after` follows it
abbrev pub IsSegment : Segment → List ℕ → Type 0
IsSegment (passed line) after = IsPassed line
IsSegment (skipped head rest lines) after =
    IsHead head rest × (verb_named head.name ≡ None) × IsLine rest × AllPassed lines × IsTrue (ends_or_begins_statement after)
IsSegment (stated text subject ignored) after =
    IsStatementText text × (subject_in text ≡ Some subject) × IsLine ignored

abbrev pub spell_row : List Segment → List ℕ
spell_row row = flat_map spell_segment row

-- each of a row is a segment, if the text `after` follows the row
abbrev pub IsRow : List Segment → List ℕ → Type 0
IsRow [] after = Unit {0}
IsRow (segment ∷ row) after = IsSegment segment (spell_row row ++ after) × IsRow row after

-- the statement of a segment that begins on this line, if it is one
abbrev pub statement_of : ℕ → Segment → List Statement
statement_of line (passed between) = []
statement_of line (skipped head rest lines) = []
statement_of line (stated text subject ignored) =
    record { verb = text.verb; subject = subject; operands = operands text.pieces; line = line } ∷ []

-- the statements of a row that begins on this line
abbrev pub statements_of : ℕ → List Segment → List Statement
statements_of line [] = []
statements_of line (segment ∷ row) = statement_of line segment ++ statements_of (line + line_ends (spell_segment segment)) row
