use Rattle.std.proofs.Common.{◌∙◌, ap, map, rules}
use Rattle.std.proofs.lemmas.List.{take_all}
use Rattle.catalogue.proofs.SourceFacts.{no_fault, told_both, told_so}
use Rattle.catalogue.proofs.TellingFacts.{tells_on, told_by_two}
use Rattle.verdicts.specs.Judge.{status_of}
use Rattle.verdicts.specs.Verdicts.{verdict_of}
use Rattle.verdicts.proofs.IndexFacts.{made_more}
use Rattle.verdicts.proofs.AskingFacts.{failed_since}
use Rattle.verdicts.proofs.judge.Judge.statuses.Goals as goal

pub loop-id-preserved : goal.loop-id-preserved
loop-id-preserved g c =
    let asks = c.verdict.ensures.asks in
    tells_on g.met.P.Published.lawful c.loop-id.invariant asks.keeps (c.in_ok-verdict.ensures.asks.stays_open (no_fault _)) (told_both c.in_ok-verdict.ensures.verdict c.verdict.ensures.right) (λ content so_far told held.
    let was = so_far held in (
      made_more (λ id. status_of (verdict_of content c.args.zone.now id)) c.args.ids.now c.loop-id.id-index c.id-item.result c.status.result c.loop-id.statuses.items c.push.new.self.items
          c.loop-id-test.true c.id-item.is was.0 c.in_ok-push.ensures.items (c.status.ensures ∙ ap status_of (told.0 was.1)),
      told.1 was.1,
    ))

pub returns-in_err-verdict-clause-right : goal.returns-in_err-verdict-clause-right
returns-in_err-verdict-clause-right g c =
    let law = g.met.P.Published.lawful in
    told_by_two (law.keeps _ _ c.loop-id.invariant.keeps) (law.keeps _ _ c.verdict.ensures.asks.keeps) c.loop-id.invariant.told c.verdict.ensures.right (λ content so_far right held. right (so_far held).1)

pub returns-in_err-push-clause-right : goal.returns-in_err-push-clause-right
returns-in_err-push-clause-right g c =
    let law = g.met.P.Published.lawful in
    told_by_two (law.keeps _ _ c.loop-id.invariant.keeps) (law.keeps _ _ c.verdict.ensures.asks.keeps) c.loop-id.invariant.told c.verdict.ensures.right (λ content so_far right held. right (so_far held).1)

pub returns-clause-right : goal.returns-clause-right
returns-clause-right g c = told_so c.loop-id.invariant.told (λ content so_far held. (so_far held).1)

pub returns-clause-statuses : goal.returns-clause-statuses
returns-clause-statuses g c =
    told_so c.loop-id.invariant.told (λ content so_far held.
    (so_far held).0 ∙ ap (map (λ id. status_of (verdict_of content c.args.zone.now id))) (take_all c.loop-id.id-index c.args.ids.now c.loop-id-test.false))

pub returns-in_err-verdict-clause-asks : goal.returns-in_err-verdict-clause-asks
returns-in_err-verdict-clause-asks g c =
    let law = g.met.P.Published.lawful in
    record {
      keeps = law.on _ _ _ c.loop-id.invariant.keeps c.in_err-verdict.ensures.asks.keeps;
      cause = λ failed. failed_since (law.keeps _ _ c.loop-id.invariant.keeps).goes (c.in_err-verdict.ensures.asks.cause (search rules));
      stays_open = λ fault is_open. c.in_err-verdict.ensures.asks.stays_open (λ failed. fault (search rules)) (c.loop-id.invariant.still_open is_open);
    }

pub returns-in_err-push-clause-asks : goal.returns-in_err-push-clause-asks
returns-in_err-push-clause-asks g c =
    let law = g.met.P.Published.lawful in
    record {
      keeps = law.on _ _ _ c.loop-id.invariant.keeps c.in_ok-verdict.ensures.asks.keeps;
      cause = search rules;
      stays_open = λ fault is_open. c.in_ok-verdict.ensures.asks.stays_open (no_fault _) (c.loop-id.invariant.still_open is_open);
    }
