use Rattle.std.proofs.Common.{◌≡◌, ◌<◌, ℕ, drop, get_or, length}
use Rattle.requisites.specs.Reversed.{HavePlaces, filled, times_in}
use Rattle.requisites.proofs.ReversedFacts.{AreTurnedBelow}
use Rattle.requisites.proofs.reversed.fill.Given as goal

abbrev pub invariant-loop-node : goal.invariant-loop-node
invariant-loop-node l = record {
  places : HavePlaces l.left l.rows;
  as_many : (q : ℕ) → q < length l.left → get_or l.left q 0 ≡ times_in (drop l.node l.lists) q;
  turned : AreTurnedBelow l.lists (length l.initial.left) l.node (filled l.left l.rows);
}
