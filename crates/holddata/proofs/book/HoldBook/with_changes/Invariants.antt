use Rattle.std.proofs.Common.{◌++◌, List}
use Rattle.holddata.specs.declared.hold.HoldChange.{HoldChange}
use Rattle.holddata.specs.HoldBook.{IsLeft}
use Rattle.holddata.proofs.book.HoldBook.with_changes.Given as goal

-- the book is what the changes so far leave of it
abbrev pub invariant-loop-change : goal.invariant-loop-change
invariant-loop-change l = (before : List HoldChange) → IsLeft before l.fn.self → IsLeft (before ++ l.yielded) l.book
