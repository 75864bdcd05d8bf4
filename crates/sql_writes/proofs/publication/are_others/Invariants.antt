use Rattle.std.proofs.Common.{take}
use Rattle.std.specs.List.{AllByRecursion}
use Rattle.sql_writes.specs.Records.{IsApart}
use Rattle.sql_writes.proofs.publication.are_others.Given as goal

abbrev pub invariant-loop-change : goal.invariant-loop-change
invariant-loop-change l = record {
  others : AllByRecursion (IsApart l.id) (take l.change-index l.changes);
}
