use Rattle.std.proofs.Common.{◌≡◌, rules}
use Rattle.sqlite.specs.Held.{state}
use Rattle.sql_tables.specs.Earlier.{IsOfVersion1, held_by_version_1}
use Rattle.sql_tables.specs.Ours.{version_rows}
use Rattle.sql_writes.specs.Migrating.{HoldsAll, IsMigration}
use Rattle.sql_writes.proofs.MigrateFacts.{from_version_1}
use Rattle.bureau_sql.specs.Migrated.{LeadsToMigration}
use Rattle.bureau_sql.proofs.FailingFacts.{transaction_excused}
use Rattle.bureau_sql.proofs.FoundedFacts.{transaction_led}
use Rattle.bureau_sql.proofs.migrating.migrated.Goals as goal

pub returns-clause-migrated : goal.returns-clause-migrated
returns-clause-migrated g c =
    let led = transaction_led g.S.Store c.args.conn.now c.begin-tx.result.conn.now c.migrate-written.new.tx.conn.now c.end.new.tx.0 _ _ c.begin-tx.ensures.begun
    c.begin-tx.ensures.settled c.migrate-written.result c.end.result (c.migrate-written.ensures.made (held_by_version_1 (state g.S.Store c.args.conn.now).committed))
    c.end.ensures.written c.end.ensures.refused c.end.ensures.survives in
    search (rules, led)

pub returns-clause-excused : goal.returns-clause-excused
returns-clause-excused g c =
    let database = (state g.S.Store c.begin-tx.result.conn.now).now in
    let excused = transaction_excused g.S.Store c.args.conn.now c.begin-tx.result.conn.now c.migrate-written.new.tx.conn.now c.end.new.tx.0 IsOfVersion1 (HoldsAll (version_rows 2) (held_by_version_1 database))
    c.begin-tx.ensures.begun c.begin-tx.ensures.settled c.migrate-written.result c.end.result
    (from_version_1 _ _ _ (HoldsAll (version_rows 2) (held_by_version_1 database)) (c.migrate-written.ensures.made (held_by_version_1 database))) c.migrate-written.ensures.excused
    c.end.ensures.fails _ c.end.ensures.survives in
    search (rules, excused)

pub returns-clause-done : goal.returns-clause-done
returns-clause-done g c =
    let before = (state g.S.Store c.args.conn.now).committed in
    let led : LeadsToMigration (state g.S.Store c.args.conn.now) (state g.S.Store c.end.new.tx.0) c.end.result = record {
      led = transaction_led g.S.Store c.args.conn.now c.begin-tx.result.conn.now c.migrate-written.new.tx.conn.now c.end.new.tx.0 (λ database. database ≡ before) (IsMigration before) c.begin-tx.ensures.begun
          c.begin-tx.ensures.settled c.migrate-written.result c.end.result (c.migrate-written.ensures.done before)
          c.end.ensures.written c.end.ensures.refused c.end.ensures.survives;
    } in
    search (rules, led)
