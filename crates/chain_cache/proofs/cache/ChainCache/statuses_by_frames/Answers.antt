use Rattle.std.proofs.Common.{◌∙◌, ◌+◌, ap}
use Rattle.catalogue.proofs.SourceFacts.{no_fault, told_both, told_later, told_so, told_sooner}
use Rattle.verdicts.specs.Judge.{status_of}
use Rattle.verdicts.specs.Verdicts.{verdict_of}
use Rattle.verdicts.proofs.IndexFacts.{made_more}
use Rattle.chain_cache.proofs.EntryFacts.{first_inside}
use Rattle.chain_cache.proofs.FillFacts.{filled_on}
use Rattle.chain_cache.proofs.cache.ChainCache.statuses_by_frames.Goals as goal

pub loop-id-preserved : goal.loop-id-preserved
loop-id-preserved g c =
    let law = g.met.P.Published in
    let was = c.loop-id.invariant.has_told in
    let sooner = law.lawful.keeps _ _ was.keeps in
    let later = law.lawful.keeps _ _ c.fill_small.ensures.asks.keeps in
    let so_far = told_both (told_sooner was.told later) (told_sooner c.loop-id.invariant.right later) in
    let all = told_both so_far (told_later sooner later c.in_ok-is_first.ensures.right) in
    let filled = c.in_ok-is_first.ensures.filled c.if-not-is_first.false in
    record {
      has_told = record {
        keeps = law.lawful.on _ _ _ was.keeps c.fill_small.ensures.asks.keeps;
        still_open = λ standing. c.in_ok-is_first.ensures.asks.stays_open (no_fault _) (was.still_open standing);
        told = told_so all (λ content facts held.
            made_more (λ id. status_of (verdict_of content c.args.zone.now id)) c.args.ids.now c.loop-id.id-index c.id-item.result c.status.result c.loop-id.statuses.items c.push.new.self.items
            c.loop-id-test.true c.id-item.is (facts.0.0 held) c.in_ok-push.ensures.items
            (c.status.ensures ∙ ap status_of (c.in_ok-first_verdict.ensures filled.0 content filled.1.first ((facts.1 (facts.0.1 held)).frames.each _ filled.0 (first_inside _ _ filled.1.first)))));
      };
      right = told_so (told_both (told_sooner c.loop-id.invariant.right later) (told_later sooner later c.in_ok-is_first.ensures.right)) (λ content facts held. facts.1 (facts.0 held));
      filled = filled_on c.args.ids.now c.loop-id.id-index c.id-item.result filled.0 c.args.self.now c.loop-id.self c.fill_small.new.self c.loop-id-test.true c.id-item.is c.loop-id.invariant.filled filled.1;
    }

pub returns-in_err-first_verdict-clause-filled : goal.returns-in_err-first_verdict-clause-filled
returns-in_err-first_verdict-clause-filled g c =
    let filled = c.in_ok-is_first.ensures.filled c.if-not-is_first.false in
    (c.loop-id.id-index + 1, filled_on c.args.ids.now c.loop-id.id-index c.id-item.result filled.0 c.args.self.now c.loop-id.self c.fill_small.new.self c.loop-id-test.true c.id-item.is c.loop-id.invariant.filled filled.1)

pub returns-in_err-push-clause-filled : goal.returns-in_err-push-clause-filled
returns-in_err-push-clause-filled g c =
    let filled = c.in_ok-is_first.ensures.filled c.if-not-is_first.false in
    (c.loop-id.id-index + 1, filled_on c.args.ids.now c.loop-id.id-index c.id-item.result filled.0 c.args.self.now c.loop-id.self c.fill_small.new.self c.loop-id-test.true c.id-item.is c.loop-id.invariant.filled filled.1)
