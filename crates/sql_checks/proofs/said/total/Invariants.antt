use Rattle.std.proofs.Common.{◌≡◌, take}
use Rattle.std.specs.Prelude.{sum_by}
use Rattle.sql_checks.proofs.said.total.Given as goal

-- the zones so far
abbrev pub invariant-loop-zone : goal.invariant-loop-zone
invariant-loop-zone l = l.total ≡ sum_by (λ zone. zone.1) (take l.zone-index l.zones)
