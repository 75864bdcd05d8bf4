use Rattle.std.proofs.Common.{◌≡◌, ℕ, [], length}
use Rattle.requisites.specs.Nodes.{row}
use Rattle.plan_reports.specs.Found.{places_of}
use Rattle.plan_reports.proofs.placing.no_places.Given as goal

abbrev pub invariant-loop-place : goal.invariant-loop-place
invariant-loop-place l = ((q : ℕ) → row (places_of l.rows.items) q ≡ []) × (length l.rows.items ≡ l._place)
