use Rattle.std.proofs.Common.{sym, ◌∙◌}
use Rattle.log_lines.proofs.WordFacts.{some_of, word_shown, word_whole}
use Rattle.log_lines.proofs.word.Word.of.Goals as goal

pub invariant_of-result : goal.invariant_of-result
invariant_of-result c =
    word_whole c.first-front.result.now c.loop-byte.bytes.items c.loop-byte.byte-index c.loop-byte.invariant c.loop-byte-test.false (some_of c.first-front.result.now (sym c.if-is_empty.false ∙ c.is_empty.ensures)) c.first-front.ensures.short

pub returns : goal.returns
returns c =
    word_shown c.args.text.now c.first-front.result.now c.loop-byte.bytes.items c.loop-byte.byte-index c.first-front.ensures.first c.loop-byte.invariant c.loop-byte-test.false (some_of c.first-front.result.now (sym c.if-is_empty.false ∙ c.is_empty.ensures))
