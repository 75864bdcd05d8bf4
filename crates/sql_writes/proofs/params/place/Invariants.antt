use Rattle.std.proofs.Common.{◌≡◌, ◌+◌, ◌++◌, length, take}
use Rattle.sqlite.specs.Values.{bound}
use Rattle.sql_writes.proofs.params.place.Given as goal

abbrev pub invariant-loop-i : goal.invariant-loop-i
invariant-loop-i l = record {
  long : length l.params ≡ 40;
  placed : bound (take (l.at + l.i) l.params) ≡ bound (take l.at l.fn.params) ++ bound (take l.i l.values);
}
