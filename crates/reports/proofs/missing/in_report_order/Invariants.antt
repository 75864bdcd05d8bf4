use Rattle.std.proofs.Common.{◌≡◌, [], take}
use Rattle.reports.specs.Found.{missing_entries}
use Rattle.reports.proofs.missing.in_report_order.Given as goal

abbrev pub invariant-loop-held : goal.invariant-loop-held
invariant-loop-held l = l.groups.entries ≡ missing_entries l.patterns [] (take l.held-index l.helds)
