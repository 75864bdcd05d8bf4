use Rattle.std.proofs.Common.{refl, sym, ◌∙◌, ap, subst}
use Rattle.catalogue.proofs.SourceFacts.{told_sooner, told_later, told_so}
use Rattle.catalogue.specs.Publication.{after}
use Rattle.catalogue.specs.Touched.{AgreeOutside, touched_ids}
use Rattle.bureau_store.specs.Effect.{publication}
use Rattle.bureau_store.specs.declared.caller.Caller.TheVariants.{Publisher}
use Rattle.bureau.specs.Call as call
use Rattle.bureau.specs.Outcome.{accepted, said}
use Rattle.bureau.specs.Bodies.{changes_in}
use Rattle.bureau.specs.Texts.{publication_text}
use Rattle.bureau.specs.declared.outcome.Effect.TheVariants.{Publication}
use Rattle.bureau.proofs.ChangeFacts.{out_of_turn, answered_in_turn, accepted_in_turn, said_so, said_not}
use Rattle.bureau.proofs.ShownFacts.{asked_after, shown_keeps, shown_tells}
use Rattle.bureau.proofs.changes.publish.Goals as goal

pub returns-clause-reads : goal.returns-clause-reads
returns-clause-reads g c =
    asked_after g.met.S.Store.shows_content g.met.S.Store.tables_lawful c.in_ok-number.ensures.reads.keeps c.in_ok-number.ensures.reads.is_open c.in_ok-touched.ensures.asks

pub returns-in-Err-clause-outcome : goal.returns-in-Err-clause-outcome
returns-in-Err-clause-outcome g c =
    out_of_turn (Publisher) (call.publish c.args.number c.args.body.now) c.args.number c.in_ok-number.field-0 c.in-Err.reply
    (λ this. said (changes_in c.args.body.now) (λ changes. accepted (publication changes) (publication_text changes)))
    (λ this. refl) c.in_ok-number.ensures.order c.in-Err.is

pub returns-in-Err-changes_in-clause-outcome : goal.returns-in-Err-changes_in-clause-outcome
returns-in-Err-changes_in-clause-outcome g c =
    let refusal = c.in_ok-refusal-in-Err-changes_in in
    answered_in_turn (Publisher) (call.publish c.args.number c.args.body.now) c.args.number c.in_ok-number.field-0 c.in-Ok.number refusal.field-0
    (λ this. said (changes_in c.args.body.now) (λ changes. accepted (publication changes) (publication_text changes)))
    (λ this. refl) c.in_ok-number.ensures.order c.in-Ok.is
    (record { told = λ ours clean this stands. said_not (changes_in c.args.body.now) _ c.in-Err-changes_in.fault refusal.field-0 c.in-Err-changes_in.ensures.fault refusal.ensures.input refusal.ensures.reply })

pub returns-clause-outcome : goal.returns-clause-outcome
returns-clause-outcome g c =
    let law = g.met.S.Store in
    let sooner = law.tables_lawful.keeps _ _ c.in_ok-number.ensures.reads.keeps in
    let later = law.tables_lawful.keeps _ _ (shown_keeps law.shows_content c.in_ok-touched.ensures.asks.keeps) in
    let changes = c.in-Ok-changes_in.changes.items in
    accepted_in_turn (Publisher) (call.publish c.args.number c.args.body.now) c.args.number c.in_ok-number.field-0 (record { number = c.in-Ok.number; reply = c.in_ok-reply.reply; effect = Publication c.in-Ok-changes_in.changes c.in_ok-touched.touched })
    (λ this. said (changes_in c.args.body.now) (λ changes. accepted (publication changes) (publication_text changes)))
    (λ this. refl) (told_sooner c.in_ok-number.ensures.order later) c.in-Ok.is refl
    (told_so (told_later sooner later (shown_tells law.shows_content c.in_ok-touched.ensures.touched)) (λ this touched. (
      said_so (changes_in c.args.body.now) _ changes c.in-Ok-changes_in.ensures.changes
          ∙ ap (λ text. accepted (publication changes) text) (sym (c.in_ok-reply.ensures ∙ ap (publication_text) c.deref.ensures.value)),
      (tt, λ order. subst (λ ids. AgreeOutside ids this.content (after this.content changes)) (sym (touched ∙ ap (touched_ids this.content) c.deref-2.ensures.value)) (c.in_ok-touched.ensures.touches_all this.content changes order)),
    )))
