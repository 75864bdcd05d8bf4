use Rattle.std.proofs.Common.{sym, subst}
use Rattle.holddata.specs.HoldBook.{IsInKeyOrder}
use Rattle.catalogue.proofs.BookFacts.{filtered_in_order}
use Rattle.flat_content.proofs.content.FlatContentPublished.holds_on.Goals as goal

pub returns-clause-in_key_order : goal.returns-clause-in_key_order
returns-clause-in_key_order c =
    subst IsInKeyOrder (sym c.in_ok-holds_on.ensures) (filtered_in_order _ c.self.inside.book c.self.invariant.in_key_order)
