use Rattle.std.proofs.Common.{subst}
use Rattle.holddata.specs.HoldBook.{IsInKeyOrder}
use Rattle.holddata.proofs.EntryFacts.{holds_in_order}
use Rattle.holddata.proofs.book.HoldBook.iter.Goals as goal

pub returns-clause-in_key_order : goal.returns-clause-in_key_order
returns-clause-in_key_order c = subst IsInKeyOrder c.self.view_is (holds_in_order c.self.inside.holds.entries c.self.invariant.sort_keys c.self.invariant.ordered)
