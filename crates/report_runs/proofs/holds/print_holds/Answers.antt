use Rattle.std.proofs.Common.{subst}
use Rattle.std.proofs.lemmas.Result.{err_from_is_err_and}
use Rattle.std.specs.Io.KnownBytes.{Appends}
use Rattle.transfer.specs.Transfer.{AppendsFront}
use Rattle.report_runs.proofs.OutputFacts.{unread, unmade, cut_short, printed}
use Rattle.report_runs.proofs.holds.print_holds.Goals as goal

pub returns-in_err-source-clause-printed : goal.returns-in_err-source-clause-printed
returns-in_err-source-clause-printed g c =
    let left = err_from_is_err_and c.from_residual.result c.from_residual.ensures.1 in
    rw (left.1, left.2) (unread _ _ _ c.in_err-source.ensures.fault)

pub returns-in_err-text-clause-printed : goal.returns-in_err-text-clause-printed
returns-in_err-text-clause-printed g c =
    let left = err_from_is_err_and c.from_residual-in_err-text.result c.from_residual-in_err-text.ensures.1 in
    rw (left.1, left.2) (unmade c.in_ok-source.source.items _ c.in_ok-source.ensures.ok c.in_err-text.field-0.0 _ c.in_err-text.ensures.fault)

pub returns-in_err-write_text-clause-printed : goal.returns-in_err-write_text-clause-printed
returns-in_err-write_text-clause-printed g c =
    let left = err_from_is_err_and c.from_residual-in_err-write_text.result c.from_residual-in_err-write_text.ensures.1 in
    let text = c.in_ok-text.text.items in
    rw (left.1, left.2)
    (cut_short c.in_ok-source.source.items _ c.in_ok-source.ensures.ok text _ _ _ c.in_ok-text.ensures.text c.in_err-write_text.ensures.fault
    (subst (AppendsFront _ _) c.as_slice.ensures.value c.in_err-write_text.ensures.err))

pub returns-clause-printed : goal.returns-clause-printed
returns-clause-printed g c =
    let text = c.in_ok-text.text.items in
    printed c.in_ok-source.source.items _ c.in_ok-source.ensures.ok text _ _ c.in_ok-text.ensures.text
    (subst (Appends _ _) c.as_slice.ensures.value c.in_ok-write_text.ensures.ok)
