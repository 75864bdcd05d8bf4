use Rattle.std.proofs.Common.{◌≡◌, take}
use Rattle.std.specs.Prelude.{flat_map}
use Rattle.sql_writes.specs.Records.{sups_of}
use Rattle.sql_writes.proofs.records.sup_rows.Given as goal

abbrev pub invariant-loop-change : goal.invariant-loop-change
invariant-loop-change l = record {
  made : l.rows.items ≡ flat_map sups_of (take l.change-index l.changes);
}
