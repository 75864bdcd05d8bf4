use Rattle.std.proofs.Common.{◌≡◌, false, length}
use Rattle.mcs_reader.specs.Pieces.{Before}
use Rattle.mcs_reader.specs.Position.{IsAfter}
use Rattle.mcs_reader.specs.Scan.{scan}
use Rattle.mcs_reader.proofs.operand.skip_gap.Given as goal

-- gaps change nothing of what is found
abbrev pub invariant-gap : goal.invariant-gap
invariant-gap l = record {
  found : (before : Before) → scan l.fn.line 0 before false l.fn.cursor.text ≡ scan l.fn.line 0 before false l.cursor.text;
  after : IsAfter l.cursor l.fn.cursor;
}

abbrev pub decreases-gap : goal.decreases-gap
decreases-gap l = length l.cursor.text
