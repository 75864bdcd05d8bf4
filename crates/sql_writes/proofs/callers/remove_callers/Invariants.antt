use Rattle.std.proofs.Common.{◌≡◌, [], Ok, take}
use Rattle.sqlite.specs.Held.{state}
use Rattle.sqlite.specs.declared.error.Error.{Error}
use Rattle.sql_tables.specs.Writing.{Changes}
use Rattle.std.specs.Prelude.{fold}
use Rattle.sql_tables.specs.Changes.{without_caller}
use Rattle.sql_tables.specs.Stored.{caller_table}
use Rattle.sql_writes.proofs.callers.remove_callers.Given as goal

abbrev pub invariant-loop-name : goal.invariant-loop-name
invariant-loop-name g l = record {
  same : l.tx.conn.ghost_name ≡ l.fn.tx.conn.ghost_name;
  changes : Changes {Answer = Unit {0}} {Fault = Error} (state g.S.Store l.fn.tx.conn.now) (state g.S.Store l.tx.conn.now) (Ok tt) (λ stored. caller_table.with_rows [] (fold without_caller stored (take l.name-index l.names)));
}
