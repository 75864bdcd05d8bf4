use Rattle.std.proofs.Common.{◌≡◌, map, take}
use Rattle.reports.specs.Lines.{missing_row_of}
use Rattle.reports.proofs.missing.rows_of.Given as goal

abbrev pub invariant-loop-line : goal.invariant-loop-line
invariant-loop-line l = l.rows.items ≡ map missing_row_of (take l.line-index l.lines)
