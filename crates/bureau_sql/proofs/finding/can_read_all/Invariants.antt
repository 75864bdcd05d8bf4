use Rattle.std.proofs.Common.{◌≡◌, IsTrue, false, take}
use Rattle.std.specs.List.{AllByRecursion}
use Rattle.sqlite.specs.Held.{state}
use Rattle.sqlite.specs.State.{HasCleanDisk}
use Rattle.sql_tables.specs.Reading.{OnlyReads}
use Rattle.bureau_sql.specs.Opening.{IsUnderstood}
use Rattle.bureau_sql.proofs.finding.can_read_all.Given as goal

abbrev pub invariant-loop-text : goal.invariant-loop-text
invariant-loop-text g l = record {
  reads : OnlyReads (state g.S.Store l.fn.conn) (state g.S.Store l.conn);
  mode : l.conn.in_transaction ≡ false;
  understood : HasCleanDisk (state g.S.Store l.conn) → IsTrue (state g.S.Store l.conn).is_open
      → AllByRecursion (λ text. IsUnderstood (state g.S.Store l.fn.conn).committed.schema text.now) (take l.text-index l.texts);
}
