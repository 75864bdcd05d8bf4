use Rattle.std.proofs.Common.{◌≡◌, ℕ, List, Option, map, option_map, true, take}
use Rattle.std.specs.List.{Contains}
use Rattle.supersede.specs.Reach.{has}
use Rattle.zone_plans.specs.Graphs.{AreGivenIndices}
use Rattle.zone_plans.proofs.graph.put_given.Given as goal

abbrev pub invariant-loop-need : goal.invariant-loop-need
invariant-loop-need l =
    (f : List ℕ → Option (List (List ℕ))) → map (option_map (λ ids. ids.items)) l.answers ≡ map f l.asked
    → ((need : List ℕ) → Contains l.needs need → has l.asked need ≡ true)
    → AreGivenIndices f l.ids l.left (take l.need-index l.needs) l.indices.items
