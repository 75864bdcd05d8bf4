use Rattle.std.proofs.Common.{◌↔◌, drop}
use Rattle.std.specs.List.{AllByRecursion}
use Rattle.sql_checks.proofs.looking.all_keep.Given as goal

-- all rows are such just where those to come are
abbrev pub invariant-loop-row : goal.invariant-loop-row
invariant-loop-row g l = AllByRecursion g.T.Checked.keeps_to (drop l.row-index l.rows) ↔ AllByRecursion g.T.Checked.keeps_to l.rows
