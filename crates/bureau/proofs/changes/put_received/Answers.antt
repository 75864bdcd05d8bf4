use Rattle.std.proofs.Common.{refl, sym, ◌∙◌, ap, subst}
use Rattle.zone_lists.specs.ReceivedList.{received_rows_of}
use Rattle.bureau_store.specs.Effect.{received_put}
use Rattle.bureau_store.specs.declared.caller.Caller.TheVariants.{Client}
use Rattle.bureau.specs.Call as call
use Rattle.bureau.specs.Outcome.{accepted, said}
use Rattle.bureau.specs.Bodies.{ids_in, list_said}
use Rattle.bureau.specs.Faults.{IsTold}
use Rattle.bureau.specs.Texts.{received_text}
use Rattle.bureau.specs.declared.outcome.Effect.TheVariants.{ReceivedPut}
use Rattle.bureau.proofs.ChangeFacts.{out_of_turn, answered_in_turn, accepted_in_turn, said_so, said_not, told_of_list}
use Rattle.bureau.proofs.changes.put_received.Goals as goal

pub returns-in-Err-clause-outcome : goal.returns-in-Err-clause-outcome
returns-in-Err-clause-outcome g c =
    out_of_turn (Client c.args.client.now) (call.put_received c.args.number c.args.body.now) c.args.number c.in_ok-number.field-0 c.in-Err.reply
    (λ this. said (ids_in c.args.body.now) (λ ids. accepted (received_put ids) (received_text ids)))
    (λ this. refl) c.in_ok-number.ensures.order c.in-Err.is

pub returns-in-Err-received_rows-clause-outcome : goal.returns-in-Err-received_rows-clause-outcome
returns-in-Err-received_rows-clause-outcome g c =
    let told = subst (IsTold (ids_in c.args.body.now)) (sym c.from.ensures) (told_of_list (received_rows_of c.args.body.now) c.in-Err-received_rows.fault c.in-Err-received_rows.ensures.fault) in
    let refusal = c.in_ok-refusal-in-Err-received_rows in
    answered_in_turn (Client c.args.client.now) (call.put_received c.args.number c.args.body.now) c.args.number c.in_ok-number.field-0 c.in-Ok.number refusal.field-0
    (λ this. said (ids_in c.args.body.now) (λ ids. accepted (received_put ids) (received_text ids)))
    (λ this. refl) c.in_ok-number.ensures.order c.in-Ok.is
    (record { told = λ ours clean this stands. said_not (ids_in c.args.body.now) _ c.from.result refusal.field-0 told refusal.ensures.input refusal.ensures.reply })

pub returns-clause-outcome : goal.returns-clause-outcome
returns-clause-outcome g c =
    let ids = c.in-Ok-received_rows.ids.items in
    accepted_in_turn (Client c.args.client.now) (call.put_received c.args.number c.args.body.now) c.args.number c.in_ok-number.field-0 (record { number = c.in-Ok.number; reply = c.in_ok-reply.reply; effect = ReceivedPut c.args.client.now c.in-Ok-received_rows.ids })
    (λ this. said (ids_in c.args.body.now) (λ ids. accepted (received_put ids) (received_text ids)))
    (λ this. refl) c.in_ok-number.ensures.order c.in-Ok.is refl
    (record {
      told = λ ours clean this stands. (
        said_so (ids_in c.args.body.now) _ ids (ap list_said c.in-Ok-received_rows.ensures.rows)
            ∙ ap (λ text. accepted (received_put ids) text) (sym (c.in_ok-reply.ensures ∙ ap (received_text) c.deref.ensures.value)),
        (tt, λ order. tt),
      );
    })
