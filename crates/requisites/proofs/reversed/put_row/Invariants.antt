use Rattle.std.proofs.Common.{take}
use Rattle.requisites.specs.Reversed.{AreTaken, HavePlaces, RowAdded, filled}
use Rattle.requisites.proofs.reversed.put_row.Given as goal

abbrev pub invariant-loop-below : goal.invariant-loop-below
invariant-loop-below l = record {
  places : HavePlaces l.left l.rows;
  taken : AreTaken (take l.below-index l.listed) l.initial.left l.left;
  added : RowAdded (take l.below-index l.listed) l.node (filled l.initial.left l.initial.rows) (filled l.left l.rows);
}
