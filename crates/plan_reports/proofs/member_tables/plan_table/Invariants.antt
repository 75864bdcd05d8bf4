use Rattle.std.proofs.Common.{◌≡◌, Some, map, take}
use Rattle.columns.specs.Table.{table_with}
use Rattle.plan_reports.specs.Tables.{plan_columns, plan_fields}
use Rattle.plan_reports.proofs.member_tables.plan_table.Given as goal

abbrev pub invariant-loop-member : goal.invariant-loop-member
invariant-loop-member l = l.table ≡ table_with plan_columns (Some l.title.items) (map plan_fields (take l.member-index l.members))
