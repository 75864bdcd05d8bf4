use Rattle.std.proofs.Common.{◌∙◌, ap, map, sym}
use Rattle.std.proofs.lemmas.List.{take_all}
use Rattle.chains.proofs.AnswerFacts.{answer_from, answers_more}
use Rattle.chains.proofs.candidates.found_for_each.Goals as goal

pub loop-turn-preserved : goal.loop-turn-preserved
loop-turn-preserved c =
    let asked = c.args.asked.now in
    let turn = c.loop-turn.turn in
    let id = c.index-asked-turn.result in
    record {
      bound = c.in_ok-found_from.ensures.bound;
      len = c.in_ok-found_from.ensures.len;
      found = λ f is.
          answers_more _ f asked turn id c.loop-turn.found.items c.push.new.self.items c.in_ok-found_from.field-0 c.loop-turn-test.true c.index-asked-turn.is (c.loop-turn.invariant.found f is)
          c.in_ok-push.ensures.items
          (is id _ (turn, c.loop-turn-test.true, sym c.index-asked-turn.is)
          (answer_from c.args.ids.now c.args.above.now c.args.there.now c.args.candidates.now id c.absent_at-index.result _
          c.absent_at-index.ensures.some c.absent_at-index.ensures.absent c.absent_at-index.ensures.none c.in_ok-found_from.ensures.found));
    }

pub returns : goal.returns
returns c = λ f is. c.loop-turn.invariant.found f is ∙ ap (map f) (take_all c.loop-turn.turn c.args.asked.now c.loop-turn-test.false)
