use Rattle.std.proofs.Common.{List, ℕ, Ok, sym, ap, ◌∙◌, subst}
use Rattle.report_runs.specs.Holds.{IsBookLeft}
use Rattle.report_runs.proofs.BookFacts.{book_left}
use Rattle.report_runs.proofs.holds.hold_book_text.Goals as goal

pub returns-clause-left : goal.returns-clause-left
returns-clause-left c =
    let printed = c.in_ok-changes.ensures.changes ∙ ap Ok (sym c.in_ok-text_left.ensures.text) in
    subst (λ (source : List ℕ). IsBookLeft source c.in_ok-text_left.field-0.items) c.as_slice.ensures.value (book_left _ _ printed)
