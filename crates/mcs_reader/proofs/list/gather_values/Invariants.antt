use Rattle.std.proofs.Common.{◌≡◌, ◌+◌, ◌<◌, ◌≤◌, false, length}
use Rattle.mcs_reader.specs.Pieces.{no_name}
use Rattle.mcs_reader.specs.Bytes.{bytes_of_each}
use Rattle.mcs_reader.specs.Position.{IsAfter}
use Rattle.mcs_reader.specs.Scan.{on_found, scan, with_values}
use Rattle.mcs_reader.proofs.list.gather_values.Given as goal

-- the values so far stand in front of what is found after them
abbrev pub invariant-values : goal.invariant-values
invariant-values l = record {
  found : scan l.fn.line 1 no_name false l.fn.cursor.text ≡ on_found (with_values (bytes_of_each l.scratch.items)) (scan l.fn.line l.depth no_name false l.cursor.text);
  still_open : 0 < l.depth;
  no_deeper : l.depth + length l.cursor.text ≤ 1 + length l.fn.cursor.text;
  after : IsAfter l.cursor l.fn.cursor;
}

abbrev pub decreases-values : goal.decreases-values
decreases-values l = length l.cursor.text
