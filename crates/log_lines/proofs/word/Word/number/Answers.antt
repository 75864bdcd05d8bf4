use Rattle.std.proofs.Common.{◌≤◌, length, subst, sym, ◌∙◌}
use Rattle.log_lines.specs.Words.{AreShown}
use Rattle.log_lines.proofs.WordFacts.{decimal_shown}
use Rattle.log_lines.proofs.word.Word.number.Goals as goal

pub printed-requires-clause-some : goal.printed-requires-clause-some
printed-requires-clause-some c =
    subst (λ t. 1 ≤ length t) (sym (c.as_bytes.ensures.value ∙ c.format.ensures.text)) (decimal_shown c.args.number c.ranges.number.fits).0

pub printed-requires-clause-shown : goal.printed-requires-clause-shown
printed-requires-clause-shown c =
    subst AreShown (sym (c.as_bytes.ensures.value ∙ c.format.ensures.text)) (decimal_shown c.args.number c.ranges.number.fits).1
