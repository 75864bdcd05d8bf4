use Rattle.std.proofs.Common.{List, []}
use Rattle.std.proofs.lemmas.Result.{IfOk-weaker}
use Rattle.holddata.specs.declared.hold.Hold.{Hold}
use Rattle.holddata.proofs.BookFacts.{book_of_is_left, book_of_only}
use Rattle.holddata.proofs.book.book_left.Goals as goal

pub returns-clause-book : goal.returns-clause-book
returns-clause-book c = IfOk-weaker c.with_changes.result _ _ (λ (book : List Hold) made. made [] c.new.ensures) c.with_changes.ensures.book

pub returns-clause-left : goal.returns-clause-left
returns-clause-left c = book_of_is_left c.args.changes.items

pub returns-clause-only : goal.returns-clause-only
returns-clause-only c = book_of_only c.args.changes.items
