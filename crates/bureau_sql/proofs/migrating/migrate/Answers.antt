use Rattle.std.proofs.Common.{Err, Ok, ap, inl, rules}
use Rattle.sqlite.specs.Held.{state}
use Rattle.sqlite.specs.State.{HasCleanDisk}
use Rattle.sql_tables.proofs.StopFacts.{was_clean}
use Rattle.sql_tables.specs.Earlier.{IsOfVersion1, held_by_version_1}
use Rattle.sql_tables.specs.Ours.{version_rows}
use Rattle.sql_tables.specs.Stored.{tables_of}
use Rattle.sql_writes.specs.Migrating.{HoldsAll}
use Rattle.bureau_sql.specs.Migrated.{LeavesUntouched}
use Rattle.bureau_sql.specs.Opening.{IsNotEarlier}
use Rattle.bureau_sql.proofs.MigratedFacts.{after_is_ours, brought_held, brought_keeps, brought_survives, failed_to_migrate, left_untouched, of_call, refused_survives, taken_so, untouched_by}
use Rattle.bureau_sql.proofs.OpenFacts.{no_later_store, not_earlier}
use Rattle.bureau_sql.proofs.migrating.migrate.Goals as goal

-- the rows that were there stand in the tables of version 2
held : (g : _) (c : goal.In-Ok g) → HasCleanDisk (state g.S.Store c.migrated.new.conn) → IsOfVersion1 (state g.S.Store c.args.conn.now).committed
    → HoldsAll (version_rows 2) (held_by_version_1 (state g.S.Store c.args.conn.now).committed) (state g.S.Store c.migrated.new.conn).committed
held g c =
    let old = state g.S.Store c.args.conn.now in
    let found = state g.S.Store c.holds.new.conn in
    brought_held old found (state g.S.Store c.migrated.new.conn) c.in_ok-holds.ensures.reads c.in_ok-holds.ensures.is_open
    (taken_so c.sysmod_cond.result.now found old.committed c.sysmod_cond.ensures c.in_ok-holds.ensures.version c.in_ok-holds.ensures.tables c.in_ok-holds.ensures.understood)
    (Ok _) c.in-Ok.ensures.migrated

pub returns-in-Ok-clause-ours : goal.returns-in-Ok-clause-ours
returns-in-Ok-clause-ours g c clean was =
    after_is_ours (state g.S.Store c.args.conn.now).committed (state g.S.Store c.migrated.new.conn).committed was (held g c clean was)

pub returns-in-Ok-clause-tables : goal.returns-in-Ok-clause-tables
returns-in-Ok-clause-tables g c clean was = ap tables_of (held g c clean was).held

pub returns-in_err-holds-clause-cause : goal.returns-in_err-holds-clause-cause
returns-in_err-holds-clause-cause g c =
    let cause : HasCleanDisk (state g.S.Store c.holds.new.conn) → IsNotEarlier (state g.S.Store c.args.conn.now) (state g.S.Store c.holds.new.conn) c.in_err-holds.field-0.0 =
    λ clean. not_earlier c.sysmod_cond.result.now (state g.S.Store c.args.conn.now) (state g.S.Store c.holds.new.conn) c.in_err-holds.field-0.0 c.sysmod_cond.ensures (c.in_err-holds.ensures.cause clean) in
    search (rules, cause, c.from_residual.ensures)

pub returns-in-Ok-clause-survives : goal.returns-in-Ok-clause-survives
returns-in-Ok-clause-survives g c =
    brought_survives (state g.S.Store c.args.conn.now) (state g.S.Store c.holds.new.conn) (state g.S.Store c.migrated.new.conn) c.in_ok-holds.ensures.reads c.in_ok-holds.ensures.is_open
    (taken_so c.sysmod_cond.result.now (state g.S.Store c.holds.new.conn) (state g.S.Store c.args.conn.now).committed c.sysmod_cond.ensures c.in_ok-holds.ensures.version c.in_ok-holds.ensures.tables c.in_ok-holds.ensures.understood)
    c.migrated.result c.migrated.ensures.migrated c.migrated.ensures.done.led (λ clean ours. no_later_store _ (c.in_ok-holds.ensures.version clean) ours)

pub returns-in-Err-clause-survives : goal.returns-in-Err-clause-survives
returns-in-Err-clause-survives g c =
    refused_survives (state g.S.Store c.args.conn.now) (state g.S.Store c.migrated.new.conn) (state g.S.Store c.refusal.new.conn) c.refusal.ensures.reads
    (brought_survives (state g.S.Store c.args.conn.now) (state g.S.Store c.holds.new.conn) (state g.S.Store c.migrated.new.conn) c.in_ok-holds.ensures.reads c.in_ok-holds.ensures.is_open
    (taken_so c.sysmod_cond.result.now (state g.S.Store c.holds.new.conn) (state g.S.Store c.args.conn.now).committed c.sysmod_cond.ensures c.in_ok-holds.ensures.version c.in_ok-holds.ensures.tables c.in_ok-holds.ensures.understood)
    (Err c.in-Err.error) c.in-Err.ensures.migrated c.in-Err.ensures.done.led (λ clean ours. no_later_store _ (c.in_ok-holds.ensures.version clean) ours))

pub returns-in-Err-clause-cause : goal.returns-in-Err-clause-cause
returns-in-Err-clause-cause g c clean =
    let old = state g.S.Store c.args.conn.now in
    let held = state g.S.Store c.holds.new.conn in
    let migrated = state g.S.Store c.migrated.new.conn in
    let last = state g.S.Store c.refusal.new.conn in
    let at_held = was_clean held migrated _ c.in-Err.ensures.migrated.survives (was_clean migrated last (λ trees. ⊥) c.refusal.ensures.reads.survives clean) in
    of_call old last c.refusal.result c.refusal.ensures.call
    (taken_so c.sysmod_cond.result.now held old.committed c.sysmod_cond.ensures c.in_ok-holds.ensures.version c.in_ok-holds.ensures.tables c.in_ok-holds.ensures.understood at_held)
    (λ other. failed_to_migrate old held migrated last c.in-Err.error c.in_ok-holds.ensures.reads c.in_ok-holds.ensures.is_open _ c.in-Err.ensures.migrated.survives
    c.refusal.ensures.reads c.in-Err.ensures.excused clean (c.refusal.ensures.failed other clean))

pub returns-in_err-holds-clause-untouched : goal.returns-in_err-holds-clause-untouched
returns-in_err-holds-clause-untouched g c =
    let left : LeavesUntouched (state g.S.Store c.args.conn.now) (state g.S.Store c.holds.new.conn) c.in_err-holds.field-0.0 = λ clean other. inl (untouched_by _ _ c.in_err-holds.ensures.reads) in
    search (rules, left, c.from_residual.ensures)

pub returns-in-Err-clause-untouched : goal.returns-in-Err-clause-untouched
returns-in-Err-clause-untouched g c =
    let old = state g.S.Store c.args.conn.now in
    let held = state g.S.Store c.holds.new.conn in
    let migrated = state g.S.Store c.migrated.new.conn in
    let taken = taken_so c.sysmod_cond.result.now held old.committed c.sysmod_cond.ensures c.in_ok-holds.ensures.version c.in_ok-holds.ensures.tables c.in_ok-holds.ensures.understood in
    left_untouched old held migrated (state g.S.Store c.refusal.new.conn) c.refusal.result c.in_ok-holds.ensures.reads c.in_ok-holds.ensures.is_open
    (brought_survives old held migrated c.in_ok-holds.ensures.reads c.in_ok-holds.ensures.is_open taken (Err c.in-Err.error) c.in-Err.ensures.migrated c.in-Err.ensures.done.led (λ clean ours. no_later_store _ (c.in_ok-holds.ensures.version clean) ours))
    (was_clean held migrated _ c.in-Err.ensures.migrated.survives) c.refusal.ensures.reads
    (brought_keeps old held migrated c.in_ok-holds.ensures.reads c.in_ok-holds.ensures.is_open taken (Err c.in-Err.error) c.in-Err.ensures.migrated)
    c.refusal.ensures.is_open c.refusal.ensures.rests
