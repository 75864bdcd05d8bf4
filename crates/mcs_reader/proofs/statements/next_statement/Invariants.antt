use Rattle.std.proofs.Common.{◌≡◌, length}
use Rattle.mcs_reader.specs.Position.{IsAfter}
use Rattle.mcs_reader.specs.ReadLines.{read_after}
use Rattle.mcs_reader.proofs.statements.next_statement.Given as goal

-- the lines so far were passed over
abbrev pub invariant-lines : goal.invariant-lines
invariant-lines l = record {
  read : read_after l.initial.cursor ≡ read_after l.cursor;
  after : IsAfter l.cursor l.initial.cursor;
}

abbrev pub decreases-lines : goal.decreases-lines
decreases-lines l = length l.cursor.text
