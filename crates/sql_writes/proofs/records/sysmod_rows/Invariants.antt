use Rattle.std.proofs.Common.{◌≡◌, map, take}
use Rattle.std.specs.Prelude.{flat_map}
use Rattle.sql_writes.specs.Records.{record_rows, values_of}
use Rattle.sql_writes.proofs.records.sysmod_rows.Given as goal

abbrev pub invariant-loop-change : goal.invariant-loop-change
invariant-loop-change l = record {
  made : map values_of l.rows.items ≡ flat_map record_rows (take l.change-index l.changes);
}
