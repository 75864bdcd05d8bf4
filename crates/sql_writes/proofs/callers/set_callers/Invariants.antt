use Rattle.std.proofs.Common.{◌≡◌, Ok, take}
use Rattle.sqlite.specs.Held.{state}
use Rattle.sqlite.specs.declared.error.Error.{Error}
use Rattle.sql_tables.specs.Writing.{Changes}
use Rattle.sql_tables.specs.Changes.{with_callers}
use Rattle.sql_writes.proofs.callers.set_callers.Given as goal

abbrev pub invariant-loop-caller : goal.invariant-loop-caller
invariant-loop-caller g l = record {
  same : l.tx.conn.ghost_name ≡ l.fn.tx.conn.ghost_name;
  changes : Changes {Answer = Unit {0}} {Fault = Error} (state g.S.Store l.fn.tx.conn.now) (state g.S.Store l.tx.conn.now) (Ok tt) (with_callers l.names (take l.caller-index l.callers));
}
