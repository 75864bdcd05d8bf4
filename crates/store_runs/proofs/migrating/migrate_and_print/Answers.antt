use Rattle.sqlite.specs.Held.{state}
use Rattle.store_runs.proofs.MigratingFacts.{migrated}
use Rattle.store_runs.proofs.migrating.migrate_and_print.Goals as goal

pub returns-in-Ok-clause-left : goal.returns-in-Ok-clause-left
returns-in-Ok-clause-left g c =
    let done = c.in-Ok.ensures in
    migrated c.printed.result (state g.S.Store c.args.conn.now) (state g.S.Store c.migrate.new.conn)
    (λ clean. (
      done.version clean,
      (done.found clean).0,
      (done.found clean).1,
      λ earlier. record {
        is_open = done.is_open clean;
        ours = done.ours clean earlier;
        tables = done.tables clean earlier;
        rests = done.rests;
      },
    ))
    c.printed.ensures.fault
