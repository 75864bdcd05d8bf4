use Rattle.std.proofs.Common.{rules, ◌≡◌, ◌++◌, ◌∷◌, [], refl, ◌∙◌, ap, length, map}
use Rattle.std.specs.Prelude.{None, Some}
use Rattle.std.proofs.lemmas.Result.{IfOk-weaker}
use Rattle.holddata.specs.BookText.{book_text, hold_columns, hold_fields}
use Rattle.holddata.specs.HoldBook.{book_of}
use Rattle.holddata.specs.Last.{holds_last, put_last}
use Rattle.holddata.proofs.BookFacts.{book_of_is_left}
use Rattle.holddata.proofs.LastFacts.{last_is, more, where_none, whole}
use Rattle.holddata.proofs.last.book_text_left.Goals as goal

pub changes-init : goal.changes-init
changes-init c = ([], record { made = c.in_ok-table.ensures; all = refl })

pub changes-preserved-in_ok-push_hold : goal.changes-preserved-in_ok-push_hold
changes-preserved-in_ok-push_hold c =
    let done = c.changes.invariant.0 in
    let hold = c.in-Some-put_last.hold.now in
    let left : c.changes.left.now ≡ c.in-Some.change.now ∷ c.in-Some.rest.now = search rules in
    let put : put_last c.in-Some.change.now c.in-Some.rest.now ≡ Some hold = search rules in (
      done ++ hold ∷ [],
      record {
        made = c.in_ok-push_hold.ensures done c.changes.invariant.1.made;
        all = more done hold c.in-Some.change.now c.in-Some.rest.now c.changes.left.now _ left put c.changes.invariant.1.all;
      },
    )

pub returns-in_err-sort_by_key-clause-left : goal.returns-in_err-sort_by_key-clause-left
returns-in_err-sort_by_key-clause-left c = book_of_is_left c.args.changes.items

pub returns-in_err-table-clause-left : goal.returns-in_err-table-clause-left
returns-in_err-table-clause-left c = book_of_is_left c.args.changes.items

pub returns-in_err-push_hold-clause-left : goal.returns-in_err-push_hold-clause-left
returns-in_err-push_hold-clause-left c = book_of_is_left c.args.changes.items

pub returns-clause-left : goal.returns-clause-left
returns-clause-left c = book_of_is_left c.args.changes.items

pub returns-clause-text : goal.returns-clause-text
returns-clause-text c =
    let sorted = c.sort_by_key.new.changes.items in
    let done = c.changes.invariant.0 in
    let none = where_none (length c.changes.left.now ≡ 0) _ c.split_first.result c.in_default.not-Some c.split_first.ensures.cases in
    let all : done ≡ book_of c.args.changes.items
    = whole done c.changes.left.now (holds_last sorted) none
    (c.changes.invariant.1.all ∙ ap holds_last c.as_slice-left.ensures.value)
    ∙ last_is c.args.changes.items sorted c.sort_by_key.ensures.same c.in_ok-sort_by_key.ensures.ascending in
    IfOk-weaker c.finish.result _ _
    (λ text is. is ∙ ap book_text all)
    (c.finish.ensures.whole hold_columns None (map hold_fields done) c.changes.invariant.1.made)
