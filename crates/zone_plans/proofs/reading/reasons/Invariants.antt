use Rattle.std.proofs.Common.{◌≡◌, take}
use Rattle.reports.specs.ChainText.{reasons_in}
use Rattle.zone_plans.proofs.reading.reasons.Given as goal

abbrev pub invariant-loop-hold : goal.invariant-loop-hold
invariant-loop-hold l = l.reasons.items ≡ reasons_in l.kind (take l.hold-index l.holds)
