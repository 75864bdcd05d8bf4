use Rattle.std.proofs.Common.{◌≡◌, Ok, take}
use Rattle.std.specs.Prelude.{fold}
use Rattle.catalogue.specs.declared.change.Change.TheVariants.{Whole}
use Rattle.sqlite.specs.Held.{state}
use Rattle.sqlite.specs.declared.error.Error.{Error}
use Rattle.sql_tables.specs.Writing.{Changes}
use Rattle.sql_writes.specs.Excused.{Takes}
use Rattle.sql_writes.specs.Records.{record_gone}
use Rattle.sql_writes.proofs.delete.records.Given as goal

abbrev pub invariant-loop-change : goal.invariant-loop-change
invariant-loop-change g l = record {
  same : l.tx.conn.ghost_name ≡ l.fn.tx.conn.ghost_name;
  changes : Changes {Answer = Unit {0}} {Fault = Error} (state g.S.Store l.fn.tx.conn.now) (state g.S.Store l.tx.conn.now) (Ok tt) (λ stored. fold record_gone (record_gone stored (Whole l.first)) (take l.change-index l.changes));
  takes : Takes {Answer = Unit {0}} (state g.S.Store l.fn.tx.conn.now) (state g.S.Store l.tx.conn.now) (Ok tt) 0 (λ stored. Unit {0});
}
