use Rattle.std.proofs.Common.{refl, sym, ◌∙◌, ap, subst, rules}
use Rattle.std.specs.Prelude.{codes, if◌then◌else◌}
use Rattle.zone_lists.specs.ZoneList.{zone_rows_of}
use Rattle.bureau_store.specs.Effect.{zone_put}
use Rattle.bureau_store.specs.declared.caller.Caller.TheVariants.{Client}
use Rattle.bureau.specs.Call as call
use Rattle.bureau.specs.Outcome.{answered, accepted, put_of_zone, refused}
use Rattle.bureau.specs.Bodies.{list_said, rows_in}
use Rattle.bureau.specs.Faults.{IsTold}
use Rattle.bureau.specs.Texts.{zone_put_text}
use Rattle.bureau.specs.declared.outcome.Effect.TheVariants.{ZonePut}
use Rattle.bureau.proofs.ChangeFacts.{out_of_turn, answered_in_turn, answered_after, accepted_after, said_so, said_not, told_of_list}
use Rattle.bureau.proofs.changes.put_zone.Goals as goal

pub returns-in-Err-clause-outcome : goal.returns-in-Err-clause-outcome
returns-in-Err-clause-outcome g c =
    out_of_turn (Client c.args.client.now) (call.put_zone c.args.number c.args.zone.now c.args.body.now) c.args.number c.in_ok-number.field-0 c.in-Err.reply
    (λ this. put_of_zone (this.zones c.args.client.now) c.args.zone.now c.args.body.now)
    (λ this. refl) c.in_ok-number.ensures.order c.in-Err.is

pub returns-in-Err-zone_rows-clause-outcome : goal.returns-in-Err-zone_rows-clause-outcome
returns-in-Err-zone_rows-clause-outcome g c =
    let told = subst (IsTold (rows_in c.args.body.now)) (sym c.from.ensures) (told_of_list (zone_rows_of c.args.body.now) c.in-Err-zone_rows.fault c.in-Err-zone_rows.ensures.fault) in
    let refusal = c.in_ok-refusal-in-Err-zone_rows in
    answered_in_turn (Client c.args.client.now) (call.put_zone c.args.number c.args.zone.now c.args.body.now) c.args.number c.in_ok-number.field-0 c.in-Ok.number refusal.field-0
    (λ this. put_of_zone (this.zones c.args.client.now) c.args.zone.now c.args.body.now)
    (λ this. refl) c.in_ok-number.ensures.order c.in-Ok.is
    (record { told = λ ours clean this stands. said_not (rows_in c.args.body.now) _ c.from.result refusal.field-0 told refusal.ensures.input refusal.ensures.reply })

pub returns-then-not-branch-clause-outcome : goal.returns-then-not-branch-clause-outcome
returns-then-not-branch-clause-outcome g c =
    let rows = c.in-Ok-zone_rows.rows.items in
    let zone = c.args.zone.now in
    answered_after g.met.S.Store.tables_lawful (Client c.args.client.now) (call.put_zone c.args.number c.args.zone.now c.args.body.now) c.args.number c.in_ok-number.field-0 c.in-Ok.number c.in_ok-plain.field-0
    (λ this. put_of_zone (this.zones c.args.client.now) c.args.zone.now c.args.body.now)
    (λ this. refl) c.in_ok-number.ensures.reads.keeps c.in_ok-has_room_for.ensures.reads.keeps c.in_ok-number.ensures.order c.in-Ok.is c.in_ok-has_room_for.ensures.room (λ this room.
    said_so (rows_in c.args.body.now) _ rows (ap list_said c.in-Ok-zone_rows.ensures.rows)
    ∙ ap (λ b. if b then accepted (zone_put zone rows) (zone_put_text zone rows) else refused (codes "FAULT 61\n")) (sym room ∙ c.if-not-branch.true)
    ∙ ap answered (sym c.in_ok-plain.ensures))

pub returns-clause-outcome : goal.returns-clause-outcome
returns-clause-outcome g c =
    let rows = c.in-Ok-zone_rows.rows.items in
    let zone = c.args.zone.now in
    accepted_after g.met.S.Store.tables_lawful (Client c.args.client.now) (call.put_zone c.args.number c.args.zone.now c.args.body.now) c.args.number c.in_ok-number.field-0 (record { number = c.in-Ok.number; reply = c.in_ok-reply.reply; effect = ZonePut c.args.client.now c.args.zone.now c.in-Ok-zone_rows.rows })
    (λ this. put_of_zone (this.zones c.args.client.now) c.args.zone.now c.args.body.now)
    (λ this. refl) c.in_ok-number.ensures.reads.keeps c.in_ok-has_room_for.ensures.reads.keeps c.in_ok-number.ensures.order c.in-Ok.is refl c.in_ok-has_room_for.ensures.room (λ this room. (
      said_so (rows_in c.args.body.now) _ rows (ap list_said c.in-Ok-zone_rows.ensures.rows)
          ∙ ap (λ b. if b then accepted (zone_put zone rows) (zone_put_text zone rows) else refused (codes "FAULT 61\n")) (sym room ∙ c.if-not-branch.false)
          ∙ ap (λ text. accepted (zone_put zone rows) text) (sym (c.in_ok-reply.ensures ∙ ap (zone_put_text zone) c.deref.ensures.value)),
      (tt, λ order. tt),
    ))

pub returns-in_err-has_room_for-clause-reads : goal.returns-in_err-has_room_for-clause-reads
returns-in_err-has_room_for-clause-reads g c = record { keeps = g.met.S.Store.tables_lawful.on _ _ _ c.in_ok-number.ensures.reads.keeps c.in_err-has_room_for.ensures.reads.keeps; is_open = search rules }

pub returns-in_err-plain-clause-reads : goal.returns-in_err-plain-clause-reads
returns-in_err-plain-clause-reads g c = record { keeps = g.met.S.Store.tables_lawful.on _ _ _ c.in_ok-number.ensures.reads.keeps c.in_ok-has_room_for.ensures.reads.keeps; is_open = search rules }

pub returns-then-not-branch-clause-reads : goal.returns-then-not-branch-clause-reads
returns-then-not-branch-clause-reads g c = record { keeps = g.met.S.Store.tables_lawful.on _ _ _ c.in_ok-number.ensures.reads.keeps c.in_ok-has_room_for.ensures.reads.keeps; is_open = c.in_ok-has_room_for.ensures.reads.is_open }

pub returns-in_err-reply-clause-reads : goal.returns-in_err-reply-clause-reads
returns-in_err-reply-clause-reads g c = record { keeps = g.met.S.Store.tables_lawful.on _ _ _ c.in_ok-number.ensures.reads.keeps c.in_ok-has_room_for.ensures.reads.keeps; is_open = search rules }

pub returns-clause-reads : goal.returns-clause-reads
returns-clause-reads g c = record { keeps = g.met.S.Store.tables_lawful.on _ _ _ c.in_ok-number.ensures.reads.keeps c.in_ok-has_room_for.ensures.reads.keeps; is_open = c.in_ok-has_room_for.ensures.reads.is_open }
