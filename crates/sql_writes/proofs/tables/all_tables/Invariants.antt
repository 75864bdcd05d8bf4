use Rattle.std.proofs.Common.{◌≡◌, drop}
use Rattle.sqlite.specs.Held.{state}
use Rattle.sql_writes.proofs.CreateFacts.{AreLeft}
use Rattle.sql_writes.proofs.tables.all_tables.Given as goal

abbrev pub invariant-loop-text : goal.invariant-loop-text
invariant-loop-text g l = record {
  same : l.tx.conn.ghost_name ≡ l.fn.tx.conn.ghost_name;
  left : AreLeft (state g.S.Store l.fn.tx.conn.now) (state g.S.Store l.tx.conn.now) (drop l.text-index l.text-items);
}
