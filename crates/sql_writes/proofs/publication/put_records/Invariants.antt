use Rattle.std.proofs.Common.{◌≡◌, ◌+◌, Ok, length, take}
use Rattle.std.specs.Prelude.{fold, sum_by, true}
use Rattle.std.specs.List.{AllByRecursion, list_all}
use Rattle.sqlite.specs.Held.{state}
use Rattle.sqlite.specs.declared.error.Error.{Error}
use Rattle.sql_tables.specs.Fit.{IsFitChange}
use Rattle.sql_writes.specs.Altering.{ChangesWhere}
use Rattle.sql_writes.specs.Excused.{Takes}
use Rattle.sql_writes.specs.Records.{FreeIf, record_gone, rest_count, rest_put, with_members, with_sysmods}
use Rattle.sql_writes.specs.Room.{is_short_change}
use Rattle.sql_writes.proofs.publication.put_records.Given as goal

abbrev pub invariant-loop-change : goal.invariant-loop-change
invariant-loop-change g l = record {
  same : l.tx.conn.ghost_name ≡ l.fn.tx.conn.ghost_name;
  changes : ChangesWhere {Answer = Unit {0}} {Fault = Error} (state g.S.Store l.fn.tx.conn.now) (state g.S.Store l.tx.conn.now) (Ok tt) (FreeIf l.free l.changes)
      (λ stored. fold rest_put (with_members l.sups.items (with_sysmods l.rows.items (fold record_gone stored l.changes))) (take l.change-index l.changes));
  takes : AllByRecursion IsFitChange l.changes → list_all is_short_change l.changes ≡ true → Takes {Answer = Unit {0}} (state g.S.Store l.fn.tx.conn.now) (state g.S.Store l.tx.conn.now) (Ok tt)
      ((length l.rows.items + length l.sups.items) + sum_by rest_count (take l.change-index l.changes)) (FreeIf l.free l.changes);
}
