use Rattle.std.proofs.Common.{rules, ◌≡◌, List, [], ◌∷◌, ◌++◌, ◌∙◌, sym, subst, length, append_assoc}
use Rattle.std.proofs.lemmas.Iterator.Adapters.{YieldsList-from_vec}
use Rattle.std.proofs.lemmas.Iterator.Consumers.{YieldsList-end}
use Rattle.std.specs.Vec.Iter.{into_iter_len}
use Rattle.holddata.specs.declared.hold.HoldChange.{HoldChange}
use Rattle.holddata.specs.HoldBook.{IsLeft}
use Rattle.holddata.proofs.BatchFacts.{left_by, book_by, map_itself}
use Rattle.holddata.proofs.book.HoldBook.with_changes.Goals as goal

pub loop-change-preserved : goal.loop-change-preserved
loop-change-preserved c before was =
    let seen = c.loop-change.yielded in
    subst (λ (changes : List HoldChange). IsLeft changes c.apply.new.self) (append_assoc before seen (c.in-Some.change ∷ []))
    (c.in_ok-apply.ensures.left (before ++ seen) (c.loop-change.invariant before was))

left : (c : goal.After-drop-change-iterator-2) → (before : List HoldChange) → IsLeft before c.args.self → IsLeft (before ++ c.args.changes.items) c.loop-change.book
left c before was =
    let sorted = c.sort_by_key.new.changes.items in
    let given = c.into_iter-change-iterator.ensures.into_iter_gives in
    let len : into_iter_len c.into_iter-change-iterator.result ≡ length sorted = search rules in
    let end = YieldsList-end (YieldsList-from_vec sorted given.0 len) c.loop-change.yielded c.loop-change.change-iterator c.loop-change.yielded_by c.next.result c.next.new.self c.in-None.is c.next.ensures.steps in
    let all : c.loop-change.yielded ≡ sorted = sym (map_itself c.loop-change.yielded) ∙ end.0 in
    left_by c.loop-change.book before c.args.changes.items sorted c.sort_by_key.ensures.same
    (subst (λ (changes : List HoldChange). IsLeft (before ++ changes) c.loop-change.book) all (c.loop-change.invariant before was))

pub returns-clause-left : goal.returns-clause-left
returns-clause-left c = left c

pub returns-clause-book : goal.returns-clause-book
returns-clause-book c = book_by c.args.self c.loop-change.book c.args.changes.items (left c)
