use Rattle.std.proofs.Common.{◌≡◌, take}
use Rattle.plan_reports.specs.Found.{holds_at}
use Rattle.plan_reports.proofs.telling.holds_at.Given as goal

abbrev pub invariant-loop-place : goal.invariant-loop-place
invariant-loop-place l = l.holds.items ≡ holds_at l.resolved (take l.place-index l.places)
