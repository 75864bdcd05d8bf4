use Rattle.std.proofs.Common.{◌≡◌, ◌∷◌, ◌++◌, [], List, subst}
use Rattle.std.specs.Prelude.{OnOk}
use Rattle.std.specs.Map.{values_of}
use Rattle.std.proofs.lemmas.Result.{on_ok_weaker}
use Rattle.holddata.specs.declared.hold.Hold.{Hold}
use Rattle.holddata.specs.declared.hold.HoldChange.{HoldChange}
use Rattle.holddata.specs.HoldBook.{IsChanged, IsLeft, book_of}
use Rattle.holddata.proofs.BookFacts.{book_of_more, left_after}
use Rattle.holddata.proofs.EntryFacts.{holds_in_order}
use Rattle.holddata.proofs.book.HoldBook.apply.Goals as goal

pub returns-clause-changed : goal.returns-clause-changed
returns-clause-changed c =
    let new = values_of c.make_change.new.holds.entries in
    subst (λ (book : List Hold). OnOk c.make_change.result (IsChanged c.args.change book new)) c.self.view_is c.make_change.ensures.changed

pub returns-clause-left : goal.returns-clause-left
returns-clause-left c =
    let old = values_of c.self.inside.holds.entries in
    let new = values_of c.make_change.new.holds.entries in
    subst (λ (book : List Hold). OnOk c.make_change.result ((changes : List HoldChange) → IsLeft changes book → IsLeft (changes ++ c.args.change ∷ []) new)) c.self.view_is
    (on_ok_weaker c.make_change.result (left_after old new c.args.change) c.make_change.ensures.changed)

pub returns-clause-book : goal.returns-clause-book
returns-clause-book c =
    let old = values_of c.self.inside.holds.entries in
    let new = values_of c.make_change.new.holds.entries in
    subst (λ (book : List Hold). OnOk c.make_change.result ((changes : List HoldChange) → book ≡ book_of changes → new ≡ book_of (changes ++ c.args.change ∷ []))) c.self.view_is
    (on_ok_weaker c.make_change.result (book_of_more old new c.args.change) c.make_change.ensures.changed)

pub returns-clause-in_key_order : goal.returns-clause-in_key_order
returns-clause-in_key_order c = holds_in_order c.make_change.new.holds.entries c.make_change.ensures.sort_keys c.make_change.ensures.ordered
