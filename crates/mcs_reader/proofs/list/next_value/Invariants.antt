use Rattle.std.proofs.Common.{◌≡◌, ◌+◌, ◌<◌, ◌≤◌, false, length}
use Rattle.mcs_reader.specs.Pieces.{no_name}
use Rattle.mcs_reader.specs.Position.{IsAfter}
use Rattle.mcs_reader.specs.Scan.{scan}
use Rattle.mcs_reader.proofs.list.next_value.Given as goal

-- gaps and parentheses change nothing of what is found
abbrev pub invariant-bytes : goal.invariant-bytes
invariant-bytes l = record {
  found : scan l.fn.line l.fn.depth no_name false l.fn.cursor.text ≡ scan l.fn.line l.depth no_name false l.cursor.text;
  still_open : 0 < l.depth;
  no_deeper : l.depth + length l.cursor.text ≤ l.fn.depth + length l.fn.cursor.text;
  after : IsAfter l.cursor l.fn.cursor;
}

abbrev pub decreases-bytes : goal.decreases-bytes
decreases-bytes l = length l.cursor.text
