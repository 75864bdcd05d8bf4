use Rattle.std.proofs.Common.{sym, ◌∙◌}
use Rattle.requests.proofs.RequestFacts.{told_within, told_over}
use Rattle.requests.proofs.request.length_in.Goals as goal

pub returns-then-length-le-LONGEST_BODY-clause-length : goal.returns-then-length-le-LONGEST_BODY-clause-length
returns-then-length-le-LONGEST_BODY-clause-length c =
    told_within c.args.value.now _ (sym c.is_number.ensures ∙ c.if-not-is_number.false) c.number_up_to-length.ensures.value c.number_up_to-length.ensures.over c.if-length-le-LONGEST_BODY.true

pub returns-else-length-le-LONGEST_BODY-clause-length : goal.returns-else-length-le-LONGEST_BODY-clause-length
returns-else-length-le-LONGEST_BODY-clause-length c =
    told_over c.args.value.now _ (sym c.is_number.ensures ∙ c.if-not-is_number.false) c.number_up_to-length.ensures.value c.number_up_to-length.ensures.over c.if-length-le-LONGEST_BODY.false
