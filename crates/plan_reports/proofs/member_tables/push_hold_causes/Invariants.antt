use Rattle.std.proofs.Common.{map, take}
use Rattle.plan_reports.specs.Adding.{AddsRows}
use Rattle.plan_reports.specs.Tables.{hold_cause}
use Rattle.plan_reports.proofs.member_tables.push_hold_causes.Given as goal

abbrev pub invariant-loop-hold : goal.invariant-loop-hold
invariant-loop-hold l = AddsRows (map (hold_cause l.id) (take l.hold-index l.holds)) l.fn.table l.table
