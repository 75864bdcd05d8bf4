use Rattle.std.proofs.Common.{refl}
use Rattle.sqlite.specs.Held.{state}
use Rattle.sqlite.specs.State.{HasCleanDisk}
use Rattle.sql_writes.specs.Making.{IsOpened}
use Rattle.bureau_sql.proofs.FoundedFacts.{ours_new, tables_new}
use Rattle.bureau_sql.proofs.making.init.Goals as goal

is_opened : (g : _) (c : goal.In-Ok g) → HasCleanDisk (state g.S.Store c.found-made.new.conn) → IsOpened c.args.callers.now (state g.S.Store c.found-made.new.conn).committed
is_opened g c clean = let done = c.in-Ok.ensures.led.done clean in done.2 ((c.if-not-is_empty.ensures done.0).0 refl)

pub returns-in-Ok-clause-ours : goal.returns-in-Ok-clause-ours
returns-in-Ok-clause-ours g c clean = ours_new c.args.callers.now (state g.S.Store c.found-made.new.conn).committed c.callers.ensures (is_opened g c clean)

pub returns-in-Ok-clause-tables : goal.returns-in-Ok-clause-tables
returns-in-Ok-clause-tables g c clean = tables_new c.args.callers.now (state g.S.Store c.found-made.new.conn).committed c.callers.ensures (is_opened g c clean)
