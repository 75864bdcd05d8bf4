use Rattle.bureau_store.proofs.TableFacts.{nil_ascends}
use Rattle.bureau_store.proofs.list_store.ListStore.received_by.Goals as goal

pub returns-in-None-clause-ascend : goal.returns-in-None-clause-ascend
returns-in-None-clause-ascend c = nil_ascends _ c.new.result.items c.new.ensures.items
