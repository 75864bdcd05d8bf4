use Rattle.std.proofs.Common.{◌≡◌, ◌<◌, ℕ, List, length, map}
use Rattle.std.specs.List.{Contains}
use Rattle.verdicts.specs.Indices.{RowsAre}
use Rattle.listings.specs.SeenIndices.{AreSeen}
use Rattle.listings.specs.Places.{ArePlaces}
use Rattle.listings.specs.Sights.{Sight}
use Rattle.listings.proofs.zone_nodes.marks_and_needs.Given as goal

abbrev pub invariant-loop-index : goal.invariant-loop-index
invariant-loop-index l = record {
  seen : (f : List ℕ → Sight) (ids : List (List ℕ)) → l.entries ≡ map f ids → ArePlaces l.members ids (length l.members) l.listed → AreSeen l.zone f ids l.members l.index l.candidates.items l.needs;
  len : length l.candidates.items ≡ l.index;
  within : RowsAre (λ p indices. (q : ℕ) → Contains indices q → q < length l.members) l.index l.needs;
}
