use Rattle.std.proofs.Common.{◌≡◌, take}
use Rattle.reports.specs.Found.{lent}
use Rattle.reports.proofs.errors.lent.Given as goal

abbrev pub invariant-loop-hold : goal.invariant-loop-hold
invariant-loop-hold l = lent l.all.items ≡ take l.hold-index l.holds
