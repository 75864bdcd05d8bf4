use Rattle.std.proofs.Common.{◌≡◌, Some, map, take}
use Rattle.std.specs.Prelude.{codes}
use Rattle.columns.specs.Table.{table_with}
use Rattle.plan_reports.specs.Tables.{blocked_columns, blocked_fields}
use Rattle.plan_reports.proofs.hold_tables.blocked_table.Given as goal

abbrev pub invariant-loop-one : goal.invariant-loop-one
invariant-loop-one l = l.table ≡ table_with blocked_columns (Some (codes "BLOCKED NEEDS")) (map blocked_fields (take l.one-index l.needs))
