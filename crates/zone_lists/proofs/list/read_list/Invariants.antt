use Rattle.std.proofs.Common.{◌-◌, ◌≤◌}
use Rattle.zone_lists.specs.Lists.{answer, records_of}
use Rattle.zone_lists.specs.Reader.{ReadsRecords, records_left}
use Rattle.zone_lists.proofs.ListFacts.{Reads}
use Rattle.zone_lists.proofs.list.read_list.Given as goal

abbrev pub invariant-loop-list : goal.invariant-loop-list
invariant-loop-list g l = record {
  reads : ReadsRecords l.records.reader;
  within : l.n ≤ l.limit;
  entries : Reads g.E.Entries.kind (g.E.Entries.Has l.list) (answer g.E.Entries.kind (records_of l.fn.text)) l.n (records_left l.records.reader);
}

abbrev pub decreases-loop-list : goal.decreases-loop-list
decreases-loop-list g l = l.limit - l.n
