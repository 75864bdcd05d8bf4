use Rattle.std.proofs.Common.{◌≡◌, length, sym, ap, ◌∙◌}
use Rattle.std.proofs.lemmas.List.{length-take-le}
use Rattle.requests.specs.Text.{before_len, comma, has_word}
use Rattle.requests.proofs.TextFacts.{cut_fits, word_first, word_nowhere, word_after}
use Rattle.requests.proofs.text.has_word.Goals as goal

pub returns-then-is_word : goal.returns-then-is_word
returns-then-is_word c =
    sym (c.loop-rest.invariant.same
    ∙ word_first c.args.word.now c.loop-rest.rest.now _ c.cut.ensures.before (sym c.is_word.ensures ∙ c.if-is_word.true))

pub returns-then-element-rest : goal.returns-then-element-rest
returns-then-element-rest c =
    let rest = c.loop-rest.rest.now in
    let count : length c.cut.result.0.now ≡ before_len comma rest =
    ap length c.cut.ensures.before ∙ length-take-le (before_len comma rest) rest (cut_fits comma rest) in
    sym (c.loop-rest.invariant.same
    ∙ word_nowhere c.args.word.now rest _ c.cut.ensures.before (sym c.is_word.ensures ∙ c.if-is_word.false) (sym count ∙ c.if-element-rest.true))

pub loop-rest-preserved : goal.loop-rest-preserved
loop-rest-preserved c =
    let rest = c.loop-rest.rest.now in
    let count : length c.cut.result.0.now ≡ before_len comma rest =
    ap length c.cut.ensures.before ∙ length-take-le (before_len comma rest) rest (cut_fits comma rest) in
    record {
      same = c.loop-rest.invariant.same
          ∙ word_after c.args.word.now rest _ c.cut.ensures.before (sym c.is_word.ensures ∙ c.if-is_word.false)
          (λ whole. c.if-element-rest.false (count ∙ whole))
          ∙ ap (has_word c.args.word.now) (sym c.cut.ensures.after);
    }
