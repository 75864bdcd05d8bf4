use Rattle.std.proofs.Common.{List, sym, ◌∙◌, ap, subst}
use Rattle.holddata.specs.declared.hold.HoldChange.{HoldChange}
use Rattle.holddata.specs.HoldBook.{IsLeft, book_of}
use Rattle.holddata.specs.Statements.{changes_of}
use Rattle.holddata.proofs.StatementFacts.{changes_more, changes_same, none_left}
use Rattle.holddata.proofs.book.HoldBook.apply_statement.Goals as goal

pub returns-in_ok-apply-clause-left : goal.returns-in_ok-apply-clause-left
returns-in_ok-apply-clause-left c statements was =
    subst (λ (changes : List HoldChange). IsLeft changes c.apply.new.self)
    (sym (changes_more statements c.args.statement.now c.in-Some.change (sym c.in_ok-change.ensures.change ∙ c.in-Some.is)))
    (c.in_ok-apply.ensures.left (changes_of statements) was)

pub returns-in_ok-apply-clause-book : goal.returns-in_ok-apply-clause-book
returns-in_ok-apply-clause-book c statements was =
    c.in_ok-apply.ensures.book (changes_of statements) was
    ∙ ap book_of (sym (changes_more statements c.args.statement.now c.in-Some.change (sym c.in_ok-change.ensures.change ∙ c.in-Some.is)))

pub returns-in_default-clause-left : goal.returns-in_default-clause-left
returns-in_default-clause-left c statements was =
    subst (λ (changes : List HoldChange). IsLeft changes c.args.self.now)
    (sym (changes_same statements c.args.statement.now (sym c.in_ok-change.ensures.change ∙ none_left c.in_ok-change.field-0 c.in_default.not-Some))) was

pub returns-in_default-clause-book : goal.returns-in_default-clause-book
returns-in_default-clause-book c statements was = was ∙ ap book_of (sym (changes_same statements c.args.statement.now (sym c.in_ok-change.ensures.change ∙ none_left c.in_ok-change.field-0 c.in_default.not-Some)))
