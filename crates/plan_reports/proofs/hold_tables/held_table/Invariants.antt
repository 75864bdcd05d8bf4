use Rattle.std.proofs.Common.{◌≡◌, Some, map, take}
use Rattle.std.specs.Prelude.{codes}
use Rattle.columns.specs.Table.{table_with}
use Rattle.plan_reports.specs.Tables.{held_columns, held_fields}
use Rattle.plan_reports.proofs.hold_tables.held_table.Given as goal

abbrev pub invariant-loop-one : goal.invariant-loop-one
invariant-loop-one l = l.table ≡ table_with held_columns (Some (codes "HOLDS WITH HELD RESOLVERS")) (map held_fields (take l.one-index l.holds))
