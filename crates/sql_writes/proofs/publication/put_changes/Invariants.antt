use Rattle.std.proofs.Common.{◌≡◌, ◌≤◌, ◌-◌, Ok, length, take}
use Rattle.std.specs.Prelude.{fold, sum_by, true}
use Rattle.std.specs.List.{AllByRecursion, list_all}
use Rattle.sqlite.specs.Held.{state}
use Rattle.sqlite.specs.State.{HasCleanDisk}
use Rattle.sqlite.specs.declared.error.Error.{Error}
use Rattle.sql_tables.specs.Changes.{published}
use Rattle.sql_tables.specs.Fit.{IsFitChange}
use Rattle.sql_writes.specs.Altering.{ChangesWhere}
use Rattle.sql_writes.specs.Excused.{Takes}
use Rattle.sql_writes.specs.Records.{FreeIf}
use Rattle.sql_writes.specs.Room.{is_short_change, rows_of_change}
use Rattle.sql_writes.proofs.publication.put_changes.Given as goal

abbrev pub invariant-loop-at : goal.invariant-loop-at
invariant-loop-at g l = record {
  same : l.tx.conn.ghost_name ≡ l.fn.tx.conn.ghost_name;
  within : l.at ≤ length l.changes;
  changes : ChangesWhere {Answer = Unit {0}} {Fault = Error} (state g.S.Store l.fn.tx.conn.now) (state g.S.Store l.tx.conn.now) (Ok tt) (FreeIf l.free l.changes) (λ stored. fold published stored (take l.at l.changes));
  takes : AllByRecursion IsFitChange l.changes → list_all is_short_change l.changes ≡ true → Takes {Answer = Unit {0}} (state g.S.Store l.fn.tx.conn.now) (state g.S.Store l.tx.conn.now) (Ok tt)
      (sum_by rows_of_change (take l.at l.changes)) (FreeIf l.free l.changes);
  clean : HasCleanDisk (state g.S.Store l.tx.conn.now) → HasCleanDisk (state g.S.Store l.initial.tx.conn.now);
}

abbrev pub decreases-loop-at : goal.decreases-loop-at
decreases-loop-at g l = length l.changes - l.at
