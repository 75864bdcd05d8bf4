use Rattle.std.proofs.Common.{◌≡◌, ◌+◌, ◌≤◌, length}
use Rattle.mcs_reader.specs.Scan.{after_raw}
use Rattle.mcs_reader.proofs.cursor.after_raw_in.Given as goal

-- the list isn't closed in the bytes so far, which leave this many parentheses open
abbrev pub invariant-bytes : goal.invariant-bytes
invariant-bytes l = record {
  found : after_raw l.fn.depth l.fn.columns ≡ after_raw l.depth l.left;
  no_deeper : l.depth + length l.left ≤ l.fn.depth + length l.fn.columns;
}

abbrev pub decreases-bytes : goal.decreases-bytes
decreases-bytes l = length l.left
