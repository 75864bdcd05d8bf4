use Rattle.std.proofs.Common.{◌∙◌, ap, map}
use Rattle.serde_json.specs.View.{view}
use Rattle.serde_json.specs.Written.{compact_text, has_float}
use Rattle.catalogue.proofs.SourceFacts.{told_so}
use Rattle.reports.specs.Lines.{err_lines_of}
use Rattle.report_json.specs.Json.{err_data, err_report_data, sysmod_data}
use Rattle.report_json.proofs.DateFacts.{days_found}
use Rattle.report_json.proofs.JsonFacts.{err_report_plain}
use Rattle.report_json.proofs.texts.err_json.Goals as goal

pub returns-clause-text : goal.returns-clause-text
returns-clause-text g c =
    told_so c.in_ok-sysmods.ensures.values (λ content are.
    let zone = c.args.zone.now in
    let helds = c.args.helds.now in
    let rows = c.in_ok-values.ensures ∙ ap (map err_data) (c.deref.ensures.value ∙ c.in_ok-lines.ensures.lines) in
    let is = c.in_ok-value.ensures
    ∙ ap (λ rows. err_report_data zone rows (map view c.in_ok-sysmods.sysmods.items)) rows
    ∙ ap (err_report_data zone (map err_data (err_lines_of helds))) (are ∙ ap (map (sysmod_data content)) (c.as_slice.ensures.value ∙ c.in_ok-ids.ensures)) in
    c.in_ok-compact.ensures (ap has_float is ∙ err_report_plain zone content helds) ∙ ap compact_text is)

pub returns-clause-days : goal.returns-clause-days
returns-clause-days g c = days_found

pub returns-in_err-lines-clause-days : goal.returns-in_err-lines-clause-days
returns-in_err-lines-clause-days g c = days_found

pub returns-in_err-values-clause-days : goal.returns-in_err-values-clause-days
returns-in_err-values-clause-days g c = days_found

pub returns-in_err-ids-clause-days : goal.returns-in_err-ids-clause-days
returns-in_err-ids-clause-days g c = days_found

pub returns-in_err-sysmods-clause-days : goal.returns-in_err-sysmods-clause-days
returns-in_err-sysmods-clause-days g c = days_found

pub returns-in_err-value-clause-days : goal.returns-in_err-value-clause-days
returns-in_err-value-clause-days g c = days_found

pub returns-in_err-compact-clause-days : goal.returns-in_err-compact-clause-days
returns-in_err-compact-clause-days g c = days_found
