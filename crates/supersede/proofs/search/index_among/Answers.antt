use Rattle.std.proofs.Common.{sym}
use Rattle.supersede.proofs.SearchFacts.{index_found, not_found, some_has}
use Rattle.supersede.proofs.search.index_among.Goals as goal

pub returns-in-Ok-clause-index : goal.returns-in-Ok-clause-index
returns-in-Ok-clause-index c = index_found c.args.ids.now c.args.id.now c.in-Ok.at c.in-Ok.ensures.bound c.in-Ok.ensures.position

pub returns-in-Ok-clause-stands : goal.returns-in-Ok-clause-stands
returns-in-Ok-clause-stands c = sym (some_has c.args.ids.now c.args.id.now c.in-Ok.at (returns-in-Ok-clause-index c))

pub returns-in-Err-clause-stands : goal.returns-in-Err-clause-stands
returns-in-Err-clause-stands c = sym (not_found c.args.ids.now c.args.id.now c.in-Err.field-0 c.requires c.in-Err.ensures.position)
