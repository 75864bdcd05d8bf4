use Rattle.std.proofs.Common.{map, refl}
use Rattle.file_reports.specs.Lists.{inputs_of}
use Rattle.file_reports.specs.Read.{said_of}
use Rattle.file_reports.specs.Reports.{missing_text_said}
use Rattle.file_reports.proofs.DeskFacts.{missing_answered, few_enough}
use Rattle.file_reports.proofs.ReportFacts.{made_said, with_counts_said}
use Rattle.file_reports.proofs.texts.missing_report.Goals as goal

pub returns-clause-made : goal.returns-clause-made
returns-clause-made c =
    let bodies = map (λ body. body.items) c.args.publications.items in
    with_counts_said (missing_text_said c.args.zone.now) (inputs_of c.args.lists bodies) (said_of c.in_ok-read.read) c.in_ok-text.text.items c.counts_in-counts.result
    c.in_ok-read.ensures.said c.in_ok-text.ensures.text c.counts_in-counts.ensures

pub returns-clause-desk : goal.returns-clause-desk
returns-clause-desk c =
    let bodies = map (λ body. body.items) c.args.publications.items in
    let inputs = inputs_of c.args.lists bodies in
    let text = c.in_ok-text.text.items in
    missing_answered c.args.zone.now inputs text (few_enough (λ body. body.items) c.args.publications inputs refl)
    (made_said (missing_text_said c.args.zone.now) inputs (said_of c.in_ok-read.read) text c.in_ok-read.ensures.said c.in_ok-text.ensures.text)
