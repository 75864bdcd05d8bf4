use Rattle.std.proofs.Common.{◌≡◌, ◌≤◌, ◌+◌, ◌-◌, List, Ok, length, map, take, true}
use Rattle.std.specs.Prelude.{flat_map}
use Rattle.std.specs.List.{AllByRecursion, list_all}
use Rattle.catalogue.specs.declared.change.Change.{Change}
use Rattle.sqlite.specs.Held.{state}
use Rattle.sqlite.specs.declared.error.Error.{Error}
use Rattle.sql_tables.specs.Fit.{IsFitChange}
use Rattle.sql_tables.specs.Writing.{Changes}
use Rattle.sql_writes.specs.Excused.{Takes}
use Rattle.sql_writes.specs.Records.{AreNewMembers, AreNewRecords, record_rows, values_of, with_members, with_sysmods}
use Rattle.sql_writes.specs.Room.{is_short_change}
use Rattle.sql_writes.proofs.load.records.Given as goal

abbrev pub invariant-loop-at : goal.invariant-loop-at
invariant-loop-at g l = record {
  same : l.tx.conn.ghost_name ≡ l.fn.tx.conn.ghost_name;
  within : l.at ≤ length l.sups;
  changes : Changes {Answer = Unit {0}} {Fault = Error} (state g.S.Store l.fn.tx.conn.now) (state g.S.Store l.tx.conn.now) (Ok tt) (λ stored. with_members (take l.at l.sups) (with_sysmods l.rows stored));
  takes : (records : List Change) → map values_of l.rows ≡ flat_map record_rows records → AllByRecursion IsFitChange records → list_all is_short_change records ≡ true
      → Takes {Answer = Unit {0}} (state g.S.Store l.fn.tx.conn.now) (state g.S.Store l.tx.conn.now) (Ok tt) (length l.rows + l.at) (λ stored. AreNewRecords records stored.sysmods × AreNewMembers l.sups stored.sups);
}

abbrev pub decreases-loop-at : goal.decreases-loop-at
decreases-loop-at g l = length l.sups - l.at
