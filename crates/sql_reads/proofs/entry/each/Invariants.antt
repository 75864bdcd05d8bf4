use Rattle.std.proofs.Common.{◌≡◌, ◌++◌, drop, map, Some}
use Rattle.sql_reads.proofs.entry.each.Given as goal

-- what was found so far, with what is to come, is all
abbrev pub invariant-loop-row : goal.invariant-loop-row
invariant-loop-row g l = map Some l.entries.items ++ map g.E.Entry.found (drop l.row-index l.rows) ≡ map g.E.Entry.found l.rows
