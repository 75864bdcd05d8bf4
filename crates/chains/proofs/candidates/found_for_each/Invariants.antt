use Rattle.std.proofs.Common.{◌≡◌, ◌≤◌, ℕ, List, Option, length, map, option_map, slice_index, take}
use Rattle.std.specs.List.{Contains}
use Rattle.chains.specs.Climbs.{IsAnswer}
use Rattle.chains.proofs.candidates.found_for_each.Given as goal

abbrev pub invariant-loop-turn : goal.invariant-loop-turn
invariant-loop-turn l = record {
  bound : (q : ℕ) → slice_index l.walks.seen.items q ≤ l.turn;
  len : length l.walks.seen.items ≡ length l.ids;
  found : (f : List ℕ → Option (List (List ℕ)))
      → ((id : List ℕ) (answer : Option (List (List ℕ))) → Contains l.asked id → IsAnswer l.ids l.above l.there l.candidates id answer → answer ≡ f id)
      → map (option_map (λ ids. ids.items)) l.found.items ≡ map f (take l.turn l.asked);
}
