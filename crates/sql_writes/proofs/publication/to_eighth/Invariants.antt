use Rattle.std.proofs.Common.{◌≡◌, ◌<◌, take}
use Rattle.sql_writes.specs.Records.{records_in}
use Rattle.sql_writes.proofs.publication.to_eighth.Given as goal

abbrev pub invariant-loop-at : goal.invariant-loop-at
invariant-loop-at l = record {
  counted : l.records ≡ records_in (take l.at l.changes);
  few : l.records < 8;
}
