use Rattle.sqlite.specs.Held.{state}
use Rattle.store_runs.proofs.DeskFacts.{opened_over}
use Rattle.store_runs.proofs.desk.open.Goals as goal

pub returns-in-Ok-clause-opened : goal.returns-in-Ok-clause-opened
returns-in-Ok-clause-opened g c =
    let it = c.in-Ok.ensures in
    opened_over g.S.Store (state g.S.Store c.args.conn) c.find_store.new.conn c.over.result c.over.ensures.same it.reads it.is_open it.version it.found it.other
    c.over.ensures.ours c.over.ensures.tables c.over.ensures.rests
