use Rattle.std.proofs.Common.{◌++◌, [], ◌∷◌, List, sym, ◌∙◌, ap, subst, append_assoc, take}
use Rattle.std.specs.Prelude.{map}
use Rattle.std.proofs.lemmas.List.{append-nil}
use Rattle.holddata.specs.declared.hold.HoldChange.{HoldChange}
use Rattle.holddata.specs.declared.hold.HoldChange.TheVariants.{Put}
use Rattle.holddata.specs.HoldBook.{IsInKeyOrder, book_of}
use Rattle.catalogue.specs.declared.change.Change.{Change}
use Rattle.catalogue.specs.Changes.{hold_changes_in}
use Rattle.catalogue.proofs.BookFacts.{own_book}
use Rattle.catalogue.proofs.EntryFacts.{hold_changes_more}
use Rattle.catalogue.proofs.list_published.book_after.Goals as goal
use Rattle.catalogue.proofs.list_published.book_after.Goals.{in-OfHold+in_ok-copy+in_ok-apply, in_default}

pub loop-change-init : goal.loop-change-init
loop-change-init c = record {
  book = c.in_ok-book.ensures ∙ own_book c.args.old.now c.requires ∙ ap book_of (sym (append-nil (map Put c.args.old.now)));
  in_key_order = subst IsInKeyOrder (sym c.in_ok-book.ensures) c.requires;
}

pub loop-change-preserved : goal.loop-change-preserved
loop-change-preserved c =
    let puts : List HoldChange = map Put c.args.old.now in
    let front : List HoldChange = hold_changes_in (take c.loop-change.change-index c.args.changes.now) in
    let with_change : Change → List HoldChange = λ change. front ++ hold_changes_in (change ∷ []) in
    let all : List HoldChange → List HoldChange = λ changes. puts ++ changes in
    let one : HoldChange → List HoldChange = λ change. front ++ change ∷ [] in
    let more = hold_changes_more c.args.changes.now c.loop-change.change-index c.change-item.result c.loop-change-test.true c.change-item.is in
    elim c.match-change.branch [
      | in-OfHold+in_ok-copy+in_ok-apply w ↦ record {
        book =
            w.book-is
            ∙ w.in_ok-apply.ensures.book (puts ++ front) c.loop-change.invariant.book
            ∙ ap book_of (append_assoc puts front (w.in_ok-copy.field-0 ∷ []) ∙ ap all (ap one w.in_ok-copy.ensures ∙ sym (more ∙ ap with_change w.in-OfHold.is)));
        in_key_order = subst IsInKeyOrder (sym w.book-is) w.apply.ensures.in_key_order;
      }
      | in_default w ↦ record {
        book = w.book-is ∙ c.loop-change.invariant.book ∙ ap book_of (ap all (sym (more ∙ ap with_change w.in_default.is ∙ append-nil front)));
        in_key_order = subst IsInKeyOrder (sym w.book-is) c.loop-change.invariant.in_key_order;
      }
    ]
