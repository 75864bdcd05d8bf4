-- The stops of a statement that has no reading, and the fault of each.
use Rattle.std.specs.Prelude.{◌≡◌, ℕ, Bool, false, ◌&&◌, List, [], ◌∷◌, ◌++◌, Option, Some, None, IsTrue}
use Rattle.mcs_reader.specs.declared.byte.ByteRole.TheVariants.{Other}
use Rattle.mcs_reader.specs.Comment.{role_here, IsCommentText}
use Rattle.mcs_reader.specs.Line.{begins_statement}
use Rattle.mcs_reader.specs.Pieces.{Before, no_name, a_name, name_comment, Pieces, spell, IsInside, ends_with, ends_line}
use Rattle.mcs_reader.specs.Raw.{Raw, spell_raw_open, IsRaw, AllRaw}
use Rattle.mcs_reader.specs.StatementText.{StatementText, IsStatementText, subject_in}
use Rattle.mcs_reader.specs.declared.fault.McsFault.{McsFault}
use Rattle.mcs_reader.specs.declared.fault.McsFault.TheVariants.{NoPeriod, BadVerbSubject, Unbalanced, BadByte}

-- The text after the pieces of a statement, outside lists, at which it goes no further: the end of the text; the ++ of
-- the next statement, at a line's beginning; a closing parenthesis that nothing opened; a byte that can't stand outside
-- lists; an opening parenthesis before which, gaps and comments aside, no name stands; a comment in which the text ends;
-- a list in which the text ends, or a comment in it, each of whose opening parentheses has pieces after it; a list of
-- COMMENT in which the text ends; or the period, if the verb's list isn't as the verb wants it.
pub data Stop : Type 0 where
  text_ends : Stop
  statement_begins : List ℕ → Stop
  stray_close : List ℕ → Stop
  stray_byte : ℕ → List ℕ → Stop
  nameless_list : List ℕ → Stop
  open_comment : List ℕ → Stop
  open_list : Pieces → List Pieces → Option (List ℕ) → Stop
  open_raw : Raw → List Raw → Stop
  bad_subject : List ℕ → Stop

-- the end of the text, or a comment in which it ends
abbrev pub spell_end : Option (List ℕ) → List ℕ
spell_end None = []
spell_end (Some body) = 47 ∷ 42 ∷ body

abbrev pub IsEnd : Option (List ℕ) → Type 0
IsEnd None = Unit {0}
IsEnd (Some body) = IsCommentText body

-- pieces with an opening parenthesis between each two, and the end
abbrev pub spell_open : Pieces → List Pieces → Option (List ℕ) → List ℕ
spell_open pieces [] end = spell pieces ++ spell_end end
spell_open pieces (deeper ∷ more) end = spell pieces ++ 40 ∷ spell_open deeper more end

abbrev pub AllInside : List Pieces → Type 0
AllInside [] = Unit {0}
AllInside (pieces ∷ more) = IsInside pieces × AllInside more

abbrev pub spell_stop : Stop → List ℕ
spell_stop text_ends = []
spell_stop (statement_begins text) = 43 ∷ 43 ∷ text
spell_stop (stray_close text) = 41 ∷ text
spell_stop (stray_byte b text) = b ∷ text
spell_stop (nameless_list text) = 40 ∷ text
spell_stop (open_comment body) = 47 ∷ 42 ∷ body
spell_stop (open_list pieces deeper end) = 40 ∷ spell_open pieces deeper end
spell_stop (open_raw raw deeper) = 40 ∷ spell_raw_open raw deeper
spell_stop (bad_subject text) = 46 ∷ text

-- What makes it a stop, outside lists: `before` says what stands before it, gaps and comments aside, and
-- `begun` whether it begins a line. A byte with which a comment begins is no stray byte.
abbrev pub IsStop : Before → Bool → Stop → Type 0
IsStop before begun text_ends = Unit {0}
IsStop before begun (statement_begins text) = IsTrue begun
IsStop before begun (stray_close text) = Unit {0}
IsStop before begun (stray_byte b text) = (role_here b text ≡ Other) × ((begun && begins_statement (b ∷ text)) ≡ false)
IsStop before begun (nameless_list text) = before ≡ no_name
IsStop before begun (open_comment body) = IsCommentText body
IsStop before begun (open_list pieces deeper end) = (before ≡ a_name) × IsInside pieces × AllInside deeper × IsEnd end
IsStop before begun (open_raw raw deeper) = (before ≡ name_comment) × IsRaw raw × AllRaw deeper
IsStop before begun (bad_subject text) = Unit {0}

-- a bad subject is one
abbrev pub HasNoSubject : StatementText → Stop → Type 0
HasNoSubject text (bad_subject ignored) = subject_in text ≡ None
HasNoSubject text _ = Unit {0}

-- this stops the statement, after the pieces that its text has
pub record IsStopped (text : StatementText) (stop : Stop) : Type 0 where
  pub statement : IsStatementText text
  pub stops : IsStop (ends_with a_name text.pieces) (ends_line false text.pieces) stop
  pub subject : HasNoSubject text stop

-- the fault, with the line on which the statement begins
abbrev pub fault_of : Stop → ℕ → McsFault
fault_of text_ends line = NoPeriod line
fault_of (statement_begins text) line = NoPeriod line
fault_of (stray_close text) line = Unbalanced line
fault_of (stray_byte b text) line = BadByte line
fault_of (nameless_list text) line = BadByte line
fault_of (open_comment body) line = Unbalanced line
fault_of (open_list pieces deeper end) line = Unbalanced line
fault_of (open_raw raw deeper) line = Unbalanced line
fault_of (bad_subject text) line = BadVerbSubject line
