use Rattle.std.proofs.Common.{◌≡◌, [], take}
use Rattle.reports.specs.Found.{error_entries}
use Rattle.reports.proofs.errors.in_report_order.Given as goal

abbrev pub invariant-loop-held : goal.invariant-loop-held
invariant-loop-held l = l.groups.entries ≡ error_entries [] (take l.held-index l.helds)
