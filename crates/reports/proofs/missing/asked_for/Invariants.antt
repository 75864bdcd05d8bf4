use Rattle.std.proofs.Common.{◌≡◌, filter, take}
use Rattle.reports.specs.Found.{lent}
use Rattle.reports.specs.Holds.{is_asked}
use Rattle.reports.proofs.missing.asked_for.Given as goal

abbrev pub invariant-loop-hold : goal.invariant-loop-hold
invariant-loop-hold l = lent l.asked.items ≡ filter (is_asked l.patterns) (take l.hold-index l.holds)
