use Rattle.failing_store.proofs.FailingFacts.{made_so, not_made, short_as_read}
use Rattle.failing_store.proofs.store.FailingStoreStore.make.Goals as goal

pub returns-then-fails : goal.returns-then-fails
returns-then-fails c = record { makes = not_made _ _ _ c.fails.ensures.lists c.fails.ensures.rises (c.fails.ensures.fails c.if-fails.true); cause = tt }

pub returns : goal.returns
returns c = record { makes = made_so _ _ _ _ c.fails.ensures.lists (c.fails.ensures.stands c.if-fails.false) c.make.ensures.ours c.make.result c.make.ensures.done c.make.ensures.err c.make.ensures.memory; cause = short_as_read c.make.result c.make.ensures.memory }
