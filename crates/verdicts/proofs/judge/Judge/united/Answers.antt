use Rattle.std.proofs.Common.{rules}
use Rattle.catalogue.proofs.SourceFacts.{no_fault}
use Rattle.catalogue.proofs.TellingFacts.{told_by_two}
use Rattle.verdicts.proofs.AskingFacts.{failed_since}
use Rattle.verdicts.proofs.judge.Judge.united.Goals as goal

pub returns-in_err-verdict-clause-right : goal.returns-in_err-verdict-clause-right
returns-in_err-verdict-clause-right g c =
    let law = g.met.P.Published.lawful in
    told_by_two (law.keeps _ _ c.loop-id.invariant.keeps) (law.keeps _ _ c.verdict.ensures.asks.keeps) c.loop-id.invariant.told c.verdict.ensures.right (λ content so_far right held. right (so_far held).1)

pub returns-in_err-put_plan-clause-right : goal.returns-in_err-put_plan-clause-right
returns-in_err-put_plan-clause-right g c =
    let law = g.met.P.Published.lawful in
    told_by_two (law.keeps _ _ c.loop-id.invariant.keeps) (law.keeps _ _ c.verdict.ensures.asks.keeps) c.loop-id.invariant.told c.verdict.ensures.right (λ content so_far right held. right (so_far held).1)

pub returns-in_err-verdict-clause-asks : goal.returns-in_err-verdict-clause-asks
returns-in_err-verdict-clause-asks g c =
    let law = g.met.P.Published.lawful in
    record {
      keeps = law.on _ _ _ c.loop-id.invariant.keeps c.in_err-verdict.ensures.asks.keeps;
      cause = λ failed. failed_since (law.keeps _ _ c.loop-id.invariant.keeps).goes (c.in_err-verdict.ensures.asks.cause (search rules));
      stays_open = λ fault is_open. c.in_err-verdict.ensures.asks.stays_open (λ failed. fault (search rules)) (c.loop-id.invariant.still_open is_open);
    }

pub returns-in_err-put_plan-clause-asks : goal.returns-in_err-put_plan-clause-asks
returns-in_err-put_plan-clause-asks g c =
    let law = g.met.P.Published.lawful in
    record {
      keeps = law.on _ _ _ c.loop-id.invariant.keeps c.in_ok-verdict.ensures.asks.keeps;
      cause = search rules;
      stays_open = λ fault is_open. c.in_ok-verdict.ensures.asks.stays_open (no_fault _) (c.loop-id.invariant.still_open is_open);
    }
