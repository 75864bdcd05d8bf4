use Rattle.std.proofs.Common.{refl, sym, ◌∙◌, ap, subst}
use Rattle.zone_lists.specs.PatternList.{patterns_of}
use Rattle.bureau_store.specs.Tables.{zone_named}
use Rattle.bureau_store.specs.Effect.{patterns_put}
use Rattle.bureau.specs.Call as call
use Rattle.bureau.specs.Outcome.{accepted, said}
use Rattle.bureau.specs.Bodies.{list_said, patterns_in}
use Rattle.bureau.specs.Faults.{IsTold}
use Rattle.bureau.specs.Texts.{patterns_text}
use Rattle.bureau.specs.declared.outcome.Effect.TheVariants.{PatternsPut}
use Rattle.bureau.proofs.ChangeFacts.{accepted_at, answered_at, out_of_turn_at, said_so, said_not, told_of_list, zone_there}
use Rattle.bureau.proofs.changes.put_patterns.Goals as goal

pub returns-in-Err-clause-outcome : goal.returns-in-Err-clause-outcome
returns-in-Err-clause-outcome g c =
    out_of_turn_at c.args.client.now c.args.zone.now (call.put_patterns c.args.number c.args.zone.now c.args.body.now) c.args.number c.in_ok-number.field-0 c.in-Err.reply
    (λ table. said (patterns_in c.args.body.now) (λ patterns. accepted (patterns_put c.args.zone.now patterns) (patterns_text c.args.zone.now patterns))) (λ this. refl)
    c.in_ok-number.ensures.order c.in-Err.is

pub returns-in-Err-patterns-clause-outcome : goal.returns-in-Err-patterns-clause-outcome
returns-in-Err-patterns-clause-outcome g c =
    let told = subst (IsTold (patterns_in c.args.body.now)) (sym c.from.ensures) (told_of_list (patterns_of c.args.body.now) c.in-Err-patterns.fault c.in-Err-patterns.ensures.fault) in
    let refusal = c.in_ok-refusal-in-Err-patterns in
    answered_at c.args.client.now c.args.zone.now (call.put_patterns c.args.number c.args.zone.now c.args.body.now) c.args.number c.in_ok-number.field-0 c.in-Ok.number refusal.field-0
    (λ table. said (patterns_in c.args.body.now) (λ patterns. accepted (patterns_put c.args.zone.now patterns) (patterns_text c.args.zone.now patterns))) (λ this. refl)
    c.in_ok-number.ensures.order c.in-Ok.is (λ this there.
    zone_there (zone_named c.args.zone.now (this.zones c.args.client.now)) _ there
    ∙ said_not (patterns_in c.args.body.now) _ c.from.result refusal.field-0 told refusal.ensures.input refusal.ensures.reply)

pub returns-clause-outcome : goal.returns-clause-outcome
returns-clause-outcome g c =
    let patterns = c.in-Ok-patterns.patterns.items in
    accepted_at c.args.client.now c.args.zone.now (call.put_patterns c.args.number c.args.zone.now c.args.body.now) c.args.number c.in_ok-number.field-0 (record { number = c.in-Ok.number; reply = c.in_ok-reply.reply; effect = PatternsPut c.args.client.now c.args.zone.now c.in-Ok-patterns.patterns })
    (λ table. said (patterns_in c.args.body.now) (λ patterns. accepted (patterns_put c.args.zone.now patterns) (patterns_text c.args.zone.now patterns))) (λ this. refl)
    c.in_ok-number.ensures.order c.in-Ok.is refl (λ this there. (
      zone_there (zone_named c.args.zone.now (this.zones c.args.client.now)) _ there
          ∙ said_so (patterns_in c.args.body.now) _ patterns (ap list_said c.in-Ok-patterns.ensures.rows)
          ∙ ap (λ text. accepted (patterns_put c.args.zone.now patterns) text) (sym (c.in_ok-reply.ensures ∙ ap (patterns_text c.args.zone.now) c.deref.ensures.value)),
      (there, λ order. tt),
    ))
