use Rattle.std.proofs.Common.{◌∙◌, sym}
use Rattle.mcs_reader.proofs.IdFacts.{made_over_blanks, text_over_blanks, id_over_blanks}
use Rattle.mcs_reader.proofs.id.Id.new.Goals as goal

pub invariant_of-result : goal.invariant_of-result
invariant_of-result c =
    id_over_blanks c.args.bytes.now _ (sym c.is_text.ensures ∙ c.if-not-is_text.false) c.copy_from_slice.ensures.after

pub returns-clause-value : goal.returns-clause-value
returns-clause-value c =
    made_over_blanks c.args.bytes.now _ (sym c.is_text.ensures ∙ c.if-not-is_text.false) c.copy_from_slice.ensures.after

pub returns-clause-text : goal.returns-clause-text
returns-clause-text c =
    text_over_blanks c.args.bytes.now _ (sym c.is_text.ensures ∙ c.if-not-is_text.false) c.copy_from_slice.ensures.after
