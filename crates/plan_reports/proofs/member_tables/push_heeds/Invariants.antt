use Rattle.std.proofs.Common.{map, take}
use Rattle.plan_reports.specs.Adding.{AddsRows}
use Rattle.plan_reports.specs.Tables.{heed_fields}
use Rattle.plan_reports.proofs.member_tables.push_heeds.Given as goal

abbrev pub invariant-loop-reason : goal.invariant-loop-reason
invariant-loop-reason l = AddsRows (map (heed_fields l.id l.kind) (take l.reason-index l.reasons)) l.fn.table l.table
