use Rattle.std.proofs.Common.{◌≡◌, Some, map, take}
use Rattle.std.specs.Prelude.{codes}
use Rattle.columns.specs.Table.{table_with}
use Rattle.plan_reports.specs.Tables.{hold_columns, hold_fields}
use Rattle.plan_reports.proofs.hold_tables.unresolved_table.Given as goal

abbrev pub invariant-loop-hold : goal.invariant-loop-hold
invariant-loop-hold l = l.table ≡ table_with hold_columns (Some (codes "HOLDS WITHOUT GOOD OR HELD RESOLVER")) (map hold_fields (take l.hold-index l.holds))
