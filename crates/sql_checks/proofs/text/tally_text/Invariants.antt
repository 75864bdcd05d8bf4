use Rattle.std.proofs.Common.{◌≡◌, Some, map, take}
use Rattle.columns.specs.Table.{table_with}
use Rattle.sql_checks.specs.Tally.{tally_columns, tally_fields}
use Rattle.sql_checks.proofs.text.tally_text.Given as goal

-- the table has the callers so far
abbrev pub invariant-loop-line : goal.invariant-loop-line
invariant-loop-line l = l.table ≡ table_with tally_columns (Some l.title.items) (map tally_fields (take l.line-index l.lines))
