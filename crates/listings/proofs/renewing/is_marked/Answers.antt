use Rattle.std.proofs.Common.{◌∙◌}
use Rattle.listings.proofs.RenewFacts.{has_index}
use Rattle.listings.proofs.renewing.is_marked.Goals as goal

pub returns : goal.returns
returns c = c.is_some.ensures ∙ has_index c.args.marks.now c.args.id.now c.index_of.result c.index_of.ensures.some c.index_of.ensures.none
