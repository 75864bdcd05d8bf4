use Rattle.std.proofs.Common.{◌≡◌, map, take}
use Rattle.reports.specs.Lines.{err_row_of}
use Rattle.reports.proofs.errors.rows_of.Given as goal

abbrev pub invariant-loop-line : goal.invariant-loop-line
invariant-loop-line l = l.rows.items ≡ map err_row_of (take l.line-index l.lines)
