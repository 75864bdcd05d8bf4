use Rattle.std.proofs.Common.{◌≡◌, ℕ, List, Option, map, option_map}
use Rattle.verdicts.specs.Indices.{RowsAre}
use Rattle.zone_plans.specs.Graphs.{AreGivenIndices, needs_at}
use Rattle.zone_plans.specs.Readings.{all_needs}
use Rattle.zone_plans.proofs.graph.need_rows.Given as goal

abbrev pub invariant-loop-reading : goal.invariant-loop-reading
invariant-loop-reading l =
    (f : List ℕ → Option (List (List ℕ))) → map (option_map (λ ids. ids.items)) l.answers ≡ map f l.asked → l.asked ≡ all_needs l.readings
    → RowsAre (λ p indices. AreGivenIndices f l.ids l.left (needs_at l.readings p) indices) l.reading-index l.rows
