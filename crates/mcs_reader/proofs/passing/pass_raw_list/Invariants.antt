use Rattle.std.proofs.Common.{◌≡◌, ◌+◌, ◌≤◌, length}
use Rattle.mcs_reader.specs.Position.{IsAfter}
use Rattle.mcs_reader.specs.Scan.{after_raw}
use Rattle.mcs_reader.proofs.passing.pass_raw_list.Given as goal

-- the list is closed further on
abbrev pub invariant-lines : goal.invariant-lines
invariant-lines l = record {
  found : after_raw 0 l.fn.cursor.text ≡ after_raw l.depth l.cursor.text;
  no_deeper : l.depth + length l.cursor.text ≤ length l.fn.cursor.text;
  after : IsAfter l.cursor l.fn.cursor;
}

abbrev pub decreases-lines : goal.decreases-lines
decreases-lines l = length l.cursor.text
