-- The part of a source that is left to read, statement by statement.
use Rattle.std.specs.Prelude.{◌≡◌, ℕ, ◌<◌, List, [], ◌∷◌, ◌++◌, Result, Ok, Err}
use Rattle.mcs_reader.specs.Reading.{IsFirstFault, IsReading}
use Rattle.mcs_reader.specs.declared.fault.McsFault.{McsFault}
use Rattle.mcs_reader.specs.declared.statement.Statement.{Statement}

-- the reading of a text: its statements, or the fault for which it is refused
abbrev pub Read : Type 0
Read = Result (List Statement) McsFault

-- the same with statements in front; a text that is refused stays refused
abbrev pub with_statements : List Statement → Read → Read
with_statements front (Ok statements) = Ok (front ++ statements)
with_statements front (Err fault) = Err fault

-- the reading of the rest of the source, and its number of bytes
pub record Unread : Type 0 where
  pub reading : Read
  pub bytes : ℕ

-- a whole source is read as this
abbrev pub IsRead : List ℕ → Read → Type 0
IsRead source (Ok statements) = IsReading source statements
IsRead source (Err fault) = IsFirstFault source fault

-- the statement is the first of what was left, and less is left now
pub record GivesStatement (before : Unread) (statement : Statement) (now : Unread) : Type 0 where
  pub first : before.reading ≡ with_statements (statement ∷ []) now.reading
  pub shorter : now.bytes < before.bytes
