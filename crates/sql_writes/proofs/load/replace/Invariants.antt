use Rattle.std.proofs.Common.{◌≡◌, ◌≤◌, ◌-◌, Ok, length, map, take}
use Rattle.std.specs.List.{AllByRecursion}
use Rattle.sqlite.specs.Held.{state}
use Rattle.sqlite.specs.declared.error.Error.{Error}
use Rattle.sql_tables.specs.Writing.{Changes}
use Rattle.sql_tables.specs.Changes.{coming, going}
use Rattle.sql_tables.specs.Stored.{of_table}
use Rattle.sql_writes.specs.Excused.{Takes}
use Rattle.sql_writes.specs.Many.{AreNewInPlace}
use Rattle.sql_writes.proofs.load.replace.Given as goal

abbrev pub invariant-loop-at : goal.invariant-loop-at
invariant-loop-at g l =
    let t = g.T.Table in
    let s = g.T.Several in
    record {
      same : l.tx.conn.ghost_name ≡ l.fn.tx.conn.ghost_name;
      within : l.at ≤ length l.items;
      changes : Changes {Answer = Unit {0}} {Fault = Error} (state g.S.Store l.fn.tx.conn.now) (state g.S.Store l.tx.conn.now) (Ok tt)
          (λ stored. coming (of_table t.rows t.with_rows) (map (s.row_of l.key) (take l.at l.items)) (going (of_table t.rows t.with_rows) (g.K.Key.has l.key) stored));
      takes : AllByRecursion s.is_short l.items → AreNewInPlace (s.is_same l.key) (s.row_of l.key) l.items (g.K.Key.has l.key) t.rows
          → Takes {Answer = Unit {0}} (state g.S.Store l.fn.tx.conn.now) (state g.S.Store l.tx.conn.now) (Ok tt) l.at (λ stored. Unit {0});
    }

abbrev pub decreases-loop-at : goal.decreases-loop-at
decreases-loop-at g l = length l.items - l.at
