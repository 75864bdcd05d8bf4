use Rattle.std.proofs.Common.{◌≡◌, ◌++◌, take}
use Rattle.std.specs.Prelude.{map}
use Rattle.holddata.specs.declared.hold.HoldChange.TheVariants.{Put}
use Rattle.holddata.specs.HoldBook.{IsInKeyOrder, book_of}
use Rattle.catalogue.specs.Changes.{hold_changes_in}
use Rattle.catalogue.proofs.list_published.book_after.Given as goal

abbrev pub invariant-loop-change : goal.invariant-loop-change
invariant-loop-change l = record {
  book : l.book ≡ book_of (map Put l.fn.old ++ hold_changes_in (take l.change-index l.changes));
  in_key_order : IsInKeyOrder l.book;
}
