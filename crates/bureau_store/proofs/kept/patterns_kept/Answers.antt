use Rattle.bureau_store.proofs.TableFacts.{nil_ascends}
use Rattle.bureau_store.proofs.kept.patterns_kept.Goals as goal

pub returns-in-None-clause-ascend : goal.returns-in-None-clause-ascend
returns-in-None-clause-ascend c = nil_ascends _ c.new.result.items c.new.ensures.items
