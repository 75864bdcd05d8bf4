use Rattle.std.proofs.Common.{◌≡◌, take}
use Rattle.std.specs.Prelude.{flat_map}
use Rattle.std.specs.List.{AllByRecursion}
use Rattle.mcs_reader.specs.Id.{IsId}
use Rattle.sql_writes.specs.Records.{ids_in}
use Rattle.sql_writes.proofs.free.ids_of.Given as goal

abbrev pub invariant-loop-change : goal.invariant-loop-change
invariant-loop-change l = record {
  ids : l.ids.items ≡ flat_map ids_in (take l.change-index l.changes);
  are_ids : AllByRecursion IsId (flat_map ids_in (take l.change-index l.changes));
}
