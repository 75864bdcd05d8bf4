use Rattle.std.proofs.Common.{◌≡◌, take}
use Rattle.plan_reports.specs.Found.{others_at}
use Rattle.plan_reports.proofs.telling.others_at.Given as goal

abbrev pub invariant-loop-place : goal.invariant-loop-place
invariant-loop-place l = l.others.items ≡ others_at l.ids l.id (take l.place-index l.places)
