use Rattle.std.proofs.Common.{◌≡◌, take}
use Rattle.std.specs.Cmp.Lexicographic.{slice_cmp}
use Rattle.std.specs.List.{All}
use Rattle.std.specs.Ordering.{nat_cmp}
use Rattle.sql_reads.specs.Scans.{key_at}
use Rattle.sql_reads.proofs.cut.front.Given as goal

abbrev pub invariant-loop-row : goal.invariant-loop-row
invariant-loop-row l = record {
  counted : l.count ≡ l.row-index;
  so_far : All (λ row. slice_cmp nat_cmp (key_at l.place row) l.text ≡ l.wanted) (take l.count l.rows);
}
