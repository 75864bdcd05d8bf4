use Rattle.std.proofs.Common.{map, take}
use Rattle.plan_reports.specs.Adding.{AddsRows}
use Rattle.plan_reports.specs.Tables.{need_cause}
use Rattle.plan_reports.proofs.member_tables.push_need_causes.Given as goal

abbrev pub invariant-loop-other : goal.invariant-loop-other
invariant-loop-other l = AddsRows (map (need_cause l.id) (take l.other-index l.others)) l.fn.table l.table
