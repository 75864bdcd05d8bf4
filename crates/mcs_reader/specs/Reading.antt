-- The reading of a source, or the fault for which it is refused.
use Rattle.std.specs.Prelude.{◌≡◌, ℕ, ◌+◌, ◌<◌, ◌≤◌, ◌⊎◌, List, [], ◌++◌, length}
use Rattle.mcs_reader.specs.Line.{text_of, line_ends}
use Rattle.mcs_reader.specs.StatementText.{StatementText, spell_statement}
use Rattle.mcs_reader.specs.Stop.{Stop, spell_stop, IsStopped, fault_of}
use Rattle.mcs_reader.specs.Segment.{Segment, IsRow, spell_row, statements_of}
use Rattle.mcs_reader.specs.declared.fault.McsFault.{McsFault}
use Rattle.mcs_reader.specs.declared.fault.McsFault.TheVariants.{TooLong}
use Rattle.mcs_reader.specs.declared.statement.Statement.{Statement}

-- the most bytes that a source may have: 64 MiB
abbrev pub most_bytes : ℕ
most_bytes = 67108864

-- The source's text is a row of segments, and these are its statements.
pub record IsReading (source : List ℕ) (statements : List Statement) : Type 0 where
  pub fits : length source ≤ most_bytes
  pub row : List Segment
  pub segments : IsRow row []
  pub whole : spell_row row ≡ text_of source
  pub read : statements_of 1 row ≡ statements

-- The source's text is a row of segments, and after it a statement that something stops.
pub record IsStoppedSource (source : List ℕ) (fault : McsFault) : Type 0 where
  pub fits : length source ≤ most_bytes
  pub row : List Segment
  pub statement : StatementText
  pub stop : Stop
  pub segments : IsRow row (spell_statement statement ++ spell_stop stop)
  pub stopped : IsStopped statement stop
  pub whole : spell_row row ++ (spell_statement statement ++ spell_stop stop) ≡ text_of source
  pub fault_is : fault_of stop (1 + line_ends (spell_row row)) ≡ fault

-- the fault of a source that has no reading: it is too long, or else its first statement without a reading has this fault
abbrev pub IsFirstFault : List ℕ → McsFault → Type 0
IsFirstFault source fault = ((most_bytes < length source) × (fault ≡ TooLong)) ⊎ IsStoppedSource source fault

-- a source has at most one reading and at most one first fault, and not both
pub record HasOneOutcome (source : List ℕ) : Type 0 where
  pub one_reading : (a b : List Statement) → IsReading source a → IsReading source b → a ≡ b
  pub one_fault : (f g : McsFault) → IsFirstFault source f → IsFirstFault source g → f ≡ g
  pub not_both : (a : List Statement) (f : McsFault) → IsReading source a → IsFirstFault source f → ⊥
