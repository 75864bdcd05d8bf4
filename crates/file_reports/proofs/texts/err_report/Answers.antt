use Rattle.std.proofs.Common.{map, refl, ◌∙◌, sym, ap, subst}
use Rattle.file_reports.specs.Inputs.{Inputs, IsFirstFault, said_by}
use Rattle.file_reports.specs.Lists.{err_inputs_of}
use Rattle.file_reports.specs.Read.{said_of}
use Rattle.file_reports.specs.Reports.{err_text_said, with_counts}
use Rattle.file_reports.proofs.DeskFacts.{err_answered, few_enough}
use Rattle.file_reports.proofs.ReportFacts.{made_said, text_refused, with_counts_said}
use Rattle.file_reports.proofs.texts.err_report.Goals as goal

pub returns-clause-made : goal.returns-clause-made
returns-clause-made c =
    let bodies = map (λ body. body.items) c.args.publications.items in
    with_counts_said (err_text_said c.args.zone.now) (err_inputs_of c.args.lists bodies) (said_of c.in_ok-read.read) c.in_ok-text.text.items c.counts_in-counts.result
    (sym (ap said_by (c.without_categories.ensures bodies)) ∙ c.in_ok-read.ensures.said) c.in_ok-text.ensures.text c.counts_in-counts.ensures

pub returns-clause-desk : goal.returns-clause-desk
returns-clause-desk c =
    let bodies = map (λ body. body.items) c.args.publications.items in
    let inputs = err_inputs_of c.args.lists bodies in
    let text = c.in_ok-text.text.items in
    err_answered c.args.zone.now inputs text (few_enough (λ body. body.items) c.args.publications inputs refl)
    (made_said (err_text_said c.args.zone.now) inputs (said_of c.in_ok-read.read) text (sym (ap said_by (c.without_categories.ensures bodies)) ∙ c.in_ok-read.ensures.said) c.in_ok-text.ensures.text)

pub returns-in_err-read-clause-fault : goal.returns-in_err-read-clause-fault
returns-in_err-read-clause-fault c =
    let bodies = map (λ body. body.items) c.args.publications.items in
    text_refused (with_counts (err_text_said c.args.zone.now)) (err_inputs_of c.args.lists bodies) c.from_residual.result c.in_err-read.field-0.0 c.from_residual.ensures.1
    (subst (λ (inputs : Inputs). IsFirstFault (said_by inputs) c.in_err-read.field-0.0) (c.without_categories.ensures bodies) c.in_err-read.ensures.fault)
