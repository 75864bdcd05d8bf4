use Rattle.std.proofs.Common.{◌≡◌, length, take}
use Rattle.requisites.specs.Rows.{AreEnds, blank_rows, rows_from}
use Rattle.requisites.proofs.rows.Rows.blank.Given as goal

abbrev pub invariant-loop-count : goal.invariant-loop-count
invariant-loop-count l = record {
  ends : AreEnds 0 l.ends.items (length l.entries.items);
  rows : rows_from l.entries.items 0 l.ends.items ≡ blank_rows (take l.count-index l.counts);
}
