use Rattle.std.proofs.Common.{◌<◌, ◌≤◌, ℕ, length}
use Rattle.verdicts.specs.Indices.{id_at}
use Rattle.listings.specs.Places.{AreLesser, ArePlaces}
use Rattle.listings.proofs.places.places.Given as goal

abbrev pub invariant-loop-id : goal.invariant-loop-id
invariant-loop-id l = record {
  so_far : ArePlaces l.from l.to l.id-index l.places.items;
  lesser : (p : ℕ) → l.id-index ≤ p → p < length l.from → AreLesser l.to l.next (id_at l.from p);
}
