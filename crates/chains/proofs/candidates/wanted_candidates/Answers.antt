use Rattle.std.proofs.Common.{◌≡◌, ◌∙◌, ◌+◌, [], ℕ, ap, length, subst, arith, rules}
use Rattle.lemmas.proofs.ListFacts.{get_any}
use Rattle.catalogue.proofs.SourceFacts.{no_fault, told_so}
use Rattle.requisites.specs.Sources.{HasSource}
use Rattle.supersede.specs.Giving.{is_candidate}
use Rattle.catalogue.proofs.TellingFacts.{tells_on}
use Rattle.verdicts.specs.Indices.{id_at, MarksAre}
use Rattle.verdicts.proofs.IndexFacts.{length-push, marks_more}
use Rattle.verdicts.proofs.AskingFacts.{failed_since}
use Rattle.chains.proofs.candidates.wanted_candidates.Goals as goal

pub loop-index-preserved : goal.loop-index-preserved
loop-index-preserved g c =
    let was = c.loop-index.invariant in
    let ids = c.args.ids.now in
    let wanted = c.args.wanted.now in
    let rows = c.args.zone.now in
    let index = c.loop-index.index in
    let id = c.index-ids-index.result in
    let mark = c.in_ok-is_wanted_candidate.field-0 in
    let asks = c.in_ok-is_wanted_candidate.ensures.asks in
    record {
      has_told = tells_on g.met.P.Published.lawful was.has_told asks.keeps (asks.stays_open (no_fault _)) c.in_ok-is_wanted_candidate.ensures.candidate (λ content so_far candidate at_hand.
          marks_more (λ p m. HasSource wanted p → m ≡ is_candidate content rows (id_at ids p)) index c.loop-index.are.items c.push.new.self.items mark (so_far at_hand)
          (λ has.
          let own : mark ≡ is_candidate content rows id = candidate at_hand (c.has_source-is_wanted.ensures.1 has) in
          own ∙ ap (is_candidate content rows) (c.index-ids-index.is ∙ get_any ids index id [] c.loop-index-test.true))
          c.in_ok-push.ensures.items);
      len = ap length c.in_ok-push.ensures.items ∙ length-push c.loop-index.are.items mark ∙ ap (λ (k : ℕ). k + 1) was.len;
    }

pub returns-clause-are : goal.returns-clause-are
returns-clause-are g c =
    let all : c.loop-index.index ≡ length c.args.ids.now = omega arith in
    told_so c.loop-index.invariant.has_told.told (λ content marks at_hand.
    let M : ℕ → Type 0 = λ n. MarksAre (λ p mark. HasSource c.args.wanted.now p → mark ≡ is_candidate content c.args.zone.now (id_at c.args.ids.now p)) n c.loop-index.are.items in
    subst M all (marks at_hand))

pub returns-in_err-is_wanted_candidate-clause-asks : goal.returns-in_err-is_wanted_candidate-clause-asks
returns-in_err-is_wanted_candidate-clause-asks g c =
    let law = g.met.P.Published.lawful in
    record {
      keeps = law.on _ _ _ c.loop-index.invariant.has_told.keeps c.in_err-is_wanted_candidate.ensures.asks.keeps;
      cause = λ failed. failed_since (law.keeps _ _ c.loop-index.invariant.has_told.keeps).goes (c.in_err-is_wanted_candidate.ensures.asks.cause (search rules));
      stays_open = λ fault is_open. c.in_err-is_wanted_candidate.ensures.asks.stays_open (λ failed. fault (search rules)) (c.loop-index.invariant.has_told.still_open is_open);
    }

pub returns-in_err-push-clause-asks : goal.returns-in_err-push-clause-asks
returns-in_err-push-clause-asks g c =
    let law = g.met.P.Published.lawful in
    record {
      keeps = law.on _ _ _ c.loop-index.invariant.has_told.keeps c.in_ok-is_wanted_candidate.ensures.asks.keeps;
      cause = search rules;
      stays_open = λ fault is_open. c.in_ok-is_wanted_candidate.ensures.asks.stays_open (no_fault _) (c.loop-index.invariant.has_told.still_open is_open);
    }
