use Rattle.std.proofs.Common.{◌≡◌, Some, map, take}
use Rattle.columns.specs.Table.{table_with}
use Rattle.reports.specs.ReportText.{missing_columns, missing_fields}
use Rattle.reports.proofs.text.missing_text.Given as goal

-- the table has the rows so far
abbrev pub invariant-loop-row : goal.invariant-loop-row
invariant-loop-row l =
    l.table ≡ table_with missing_columns (Some l.title.items) (map missing_fields (take l.row-index l.rows))
