use Rattle.std.proofs.Common.{◌≡◌, ◌++◌, take}
use Rattle.sql_writes.specs.Records.{pairs}
use Rattle.sql_writes.proofs.records.add_members.Given as goal

abbrev pub invariant-loop-member : goal.invariant-loop-member
invariant-loop-member l = record {
  made : l.rows.items ≡ l.fn.rows.items ++ pairs l.id (take l.member-index l.members);
}
