use Rattle.std.proofs.Common.{sym, ◌∙◌}
use Rattle.requests.proofs.RequestFacts.{few_digits, number_read}
use Rattle.requests.proofs.request.change_number.Goals as goal

pub returns-then-text-le19 : goal.returns-then-text-le19
returns-then-text-le19 c =
    let is = sym c.is_number.ensures ∙ c.if-is_number.true in
    number_read c.args.text.now _ is c.if-text-le19.true (c.number_up_to.ensures.value (few_digits c.args.text.now is c.if-text-le19.true))
