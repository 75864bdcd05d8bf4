use Rattle.std.proofs.Common.{◌∙◌, ap, map, sym}
use Rattle.catalogue.proofs.SourceFacts.{told_so}
use Rattle.reports.specs.Lines.{err_lines_of, err_row_of}
use Rattle.reports.proofs.ErrorFacts.{err_rows_are_lines}
use Rattle.reports.proofs.OrderFacts.{err_rows_ascend}
use Rattle.reports.proofs.errors.err_rows.Goals as goal

pub returns-clause-rows : goal.returns-clause-rows
returns-clause-rows g c =
    told_so c.in_ok-held.ensures.holds (λ content are right.
    c.in_ok-rows_of.ensures
    ∙ ap (map err_row_of) (c.deref-2.ensures.value ∙ c.in_ok-lines.ensures.lines ∙ ap err_lines_of (c.deref.ensures.value ∙ are right))
    ∙ sym (err_rows_are_lines content c.args.zone.now c.args.received.now c.args.holds.now))

pub returns-clause-order : goal.returns-clause-order
returns-clause-order g c = err_rows_ascend

pub returns-in_err-held-clause-order : goal.returns-in_err-held-clause-order
returns-in_err-held-clause-order g c = err_rows_ascend

pub returns-in_err-lines-clause-order : goal.returns-in_err-lines-clause-order
returns-in_err-lines-clause-order g c = err_rows_ascend

pub returns-in_err-rows_of-clause-order : goal.returns-in_err-rows_of-clause-order
returns-in_err-rows_of-clause-order g c = err_rows_ascend
