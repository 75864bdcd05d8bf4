-- The reading of a source as one value: its statements, or the fault for which it is refused. The law
-- `IsRead source (reading_of source)` says that this is right; `read` and `Statements::new` name it.
use Rattle.std.specs.Prelude.{ℕ, List, length, nat_le, Err, if◌then◌else◌}
use Rattle.mcs_reader.specs.Line.{text_of}
use Rattle.mcs_reader.specs.ReadLines.{read_text}
use Rattle.mcs_reader.specs.Reading.{most_bytes}
use Rattle.mcs_reader.specs.Unread.{Read}
use Rattle.mcs_reader.specs.declared.fault.McsFault.TheVariants.{TooLong}

unfoldable pub reading_of : List ℕ → Read
reading_of source = if nat_le (length source) most_bytes then read_text (text_of source) else Err TooLong
