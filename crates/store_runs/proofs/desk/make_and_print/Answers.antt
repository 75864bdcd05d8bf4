use Rattle.sqlite.specs.Held.{state}
use Rattle.store_runs.proofs.DeskFacts.{none_left, none_made}
use Rattle.store_runs.proofs.desk.make_and_print.Goals as goal

pub returns-clause-left : goal.returns-clause-left
returns-clause-left g c =
    let before = state g.S.Store c.args.conn.now in
    let after = state g.S.Store c.init.new.conn in
    none_left c.of_store.result c.args.source.now before after
    (none_made c.args.source.now c.in-Ok.both.0.items c.as_slice.result.now before after c.in-Err-init.fault c.of_store.result c.in-Ok.ensures.rows c.as_slice.ensures.value c.of_store.ensures
    c.in-Err-init.ensures.cause c.in-Err-init.ensures.failed)
    c.in-Err-init.ensures.refused
