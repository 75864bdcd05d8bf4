use Rattle.std.proofs.Common.{refl, sym, ◌∙◌, ap}
use Rattle.bureau_store.specs.Tables.{zone_named}
use Rattle.bureau_store.specs.Effect.{zone_dropped}
use Rattle.bureau.specs.Call as call
use Rattle.bureau.specs.Outcome.{accepted}
use Rattle.bureau.specs.declared.outcome.Effect.TheVariants.{ZoneDropped}
use Rattle.bureau.specs.Texts.{zone_dropped_text}
use Rattle.bureau.proofs.ChangeFacts.{accepted_at, out_of_turn_at, zone_there}
use Rattle.bureau.proofs.changes.drop_zone.Goals as goal

pub returns-in-Err-clause-outcome : goal.returns-in-Err-clause-outcome
returns-in-Err-clause-outcome g c =
    out_of_turn_at c.args.client.now c.args.zone.now (call.drop_zone c.args.number c.args.zone.now) c.args.number c.in_ok-number.field-0 c.in-Err.reply
    (λ table. accepted (zone_dropped c.args.zone.now) (zone_dropped_text c.args.zone.now)) (λ this. refl) c.in_ok-number.ensures.order c.in-Err.is

pub returns-clause-outcome : goal.returns-clause-outcome
returns-clause-outcome g c =
    accepted_at c.args.client.now c.args.zone.now (call.drop_zone c.args.number c.args.zone.now) c.args.number c.in_ok-number.field-0 (record { number = c.in-Ok.number; reply = c.in_ok-reply.reply; effect = ZoneDropped c.args.client.now c.args.zone.now })
    (λ table. accepted (zone_dropped c.args.zone.now) (zone_dropped_text c.args.zone.now)) (λ this. refl) c.in_ok-number.ensures.order c.in-Ok.is refl (λ this there. (
      zone_there (zone_named c.args.zone.now (this.zones c.args.client.now)) _ there ∙ ap (λ text. accepted (zone_dropped c.args.zone.now) text) (sym c.in_ok-reply.ensures),
      (there, λ order. tt),
    ))
