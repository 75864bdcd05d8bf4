use Rattle.std.proofs.Common.{◌≡◌, Some, take}
use Rattle.std.specs.List.{flat_map}
use Rattle.std.specs.Prelude.{codes}
use Rattle.columns.specs.Table.{table_with}
use Rattle.plan_reports.specs.Tables.{cause_columns, causes_of}
use Rattle.plan_reports.proofs.member_tables.cause_table.Given as goal

abbrev pub invariant-loop-member : goal.invariant-loop-member
invariant-loop-member l = l.table ≡ table_with cause_columns (Some (codes "CAUSES")) (flat_map causes_of (take l.member-index l.members))
