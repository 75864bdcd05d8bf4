use Rattle.std.proofs.Common.{◌+◌, Err, Ok, arith}
use Rattle.sql_tables.specs.Changes.{changed, going}
use Rattle.sql_tables.specs.Stored.{change_table, is_of}
use Rattle.sql_writes.specs.Room.{rows_made}
use Rattle.sql_rows.proofs.ChangeFacts.{changes_then}
use Rattle.bureau_store.specs.Effects.{effect_as, maker_of}
use Rattle.sql_writes.proofs.LastFacts.{last_after}
use Rattle.sql_rows.proofs.AbsentFacts.{gone_now}
use Rattle.sql_writes.proofs.TakeFacts.{stopped_first, takes_excuse, takes_then}
use Rattle.sql_writes.proofs.change.write.Goals as goal

pub returns-clause-changes : goal.returns-clause-changes
returns-clause-changes g c =
    last_after _ _ _ _ tt tt _ (maker_of c.args.effect.now) (effect_as c.args.effect.now) c.name-name.result (record { number = c.args.number; reply = c.args.reply.now }) c.name-name.ensures
    c.in_ok-change.ensures.changes c.in_ok-rows_of.ensures.changes c.last_change.ensures.changes

pub returns-clause-excused : goal.returns-clause-excused
returns-clause-excused g c most fit room = takes_excuse _ _ _ ((rows_made (effect_as c.args.effect.now) + 0) + 1) most (let few = room.few in omega (arith, few))
    (takes_then _ _ _ tt _ (λ stored. going change_table (is_of c.name-name.result) (changed (maker_of c.args.effect.now) (effect_as c.args.effect.now) stored)) (rows_made (effect_as c.args.effect.now) + 0) 1 (λ stored. Unit {0}) _
    (λ stored u. gone_now (is_of c.name-name.result) (is_of c.name-name.result) (λ row h. h) (changed (maker_of c.args.effect.now) (effect_as c.args.effect.now) stored).changes)
    (changes_then _ _ _ tt (Ok tt) (changed (maker_of c.args.effect.now) (effect_as c.args.effect.now)) (going change_table (is_of c.name-name.result)) c.in_ok-change.ensures.changes c.in_ok-rows_of.ensures.changes)
    (takes_then _ _ _ tt (Ok tt) (changed (maker_of c.args.effect.now) (effect_as c.args.effect.now)) (rows_made (effect_as c.args.effect.now)) 0 (λ stored. Unit {0}) (λ stored. Unit {0}) (λ stored u. tt) c.in_ok-change.ensures.changes (c.in_ok-change.ensures.takes fit room.lists)
    c.rows_of.ensures.changes.survives c.in_ok-rows_of.ensures.takes)
    c.last_change.ensures.changes.survives (c.last_change.ensures.takes room.numbered room.reply))

pub returns-in_err-change-clause-excused : goal.returns-in_err-change-clause-excused
returns-in_err-change-clause-excused g c most fit room =
    takes_excuse _ _ _ (rows_made (effect_as c.args.effect.now)) most (let few = room.few in omega (arith, few))
    (stopped_first _ _ c.in_err-change.field-0.0 _ (rows_made (effect_as c.args.effect.now)) (rows_made (effect_as c.args.effect.now)) (λ stored. Unit {0}) (λ stored. Unit {0}) c.from_residual.ensures.1 (λ stored u. tt) (c.in_err-change.ensures.takes fit room.lists) (omega arith))

pub returns-in_err-rows_of-clause-excused : goal.returns-in_err-rows_of-clause-excused
returns-in_err-rows_of-clause-excused g c most fit room =
    takes_excuse _ _ _ (rows_made (effect_as c.args.effect.now) + 0) most (let few = room.few in omega (arith, few))
    (stopped_first _ _ c.in_err-rows_of.field-0.0 _ (rows_made (effect_as c.args.effect.now) + 0) (rows_made (effect_as c.args.effect.now) + 0) (λ stored. Unit {0}) (λ stored. Unit {0}) c.from_residual-in_err-rows_of.ensures.1 (λ stored u. tt)
    (takes_then _ _ _ tt (Err c.in_err-rows_of.field-0.0) (changed (maker_of c.args.effect.now) (effect_as c.args.effect.now)) (rows_made (effect_as c.args.effect.now)) 0 (λ stored. Unit {0}) (λ stored. Unit {0}) (λ stored u. tt) c.in_ok-change.ensures.changes
    (c.in_ok-change.ensures.takes fit room.lists) c.rows_of.ensures.changes.survives c.in_err-rows_of.ensures.takes) (omega arith))
