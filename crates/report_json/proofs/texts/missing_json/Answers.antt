use Rattle.std.proofs.Common.{◌∙◌, ap, map}
use Rattle.serde_json.specs.View.{view}
use Rattle.serde_json.specs.Written.{compact_text, has_float}
use Rattle.catalogue.proofs.SourceFacts.{told_so}
use Rattle.reports.specs.Holds.{HoldLists}
use Rattle.reports.specs.Lines.{missing_lines_of}
use Rattle.report_json.specs.Json.{hold_data, missing_data, missing_report_data, sysmod_data}
use Rattle.report_json.proofs.DateFacts.{days_found}
use Rattle.report_json.proofs.JsonFacts.{missing_report_plain}
use Rattle.report_json.proofs.texts.missing_json.Goals as goal

pub returns-clause-text : goal.returns-clause-text
returns-clause-text g c =
    told_so c.in_ok-sysmods.ensures.values (λ content are.
    let zone = c.args.zone.now in
    let patterns = c.args.patterns.now in
    let helds = c.args.helds.now in
    let named = map (λ (held : HoldLists). hold_data held.hold) helds in
    let rows = c.in_ok-values.ensures ∙ ap (map missing_data) (c.deref.ensures.value ∙ c.in_ok-lines.ensures.lines) in
    let is = c.in_ok-value.ensures
    ∙ ap (λ holds. missing_report_data zone holds (map view c.in_ok-values.values.items) (map view c.in_ok-sysmods.sysmods.items)) c.in_ok-named.ensures
    ∙ ap (λ rows. missing_report_data zone named rows (map view c.in_ok-sysmods.sysmods.items)) rows
    ∙ ap (missing_report_data zone named (map missing_data (missing_lines_of patterns helds))) (are ∙ ap (map (sysmod_data content)) (c.as_slice.ensures.value ∙ c.in_ok-ids.ensures)) in
    c.in_ok-compact.ensures (ap has_float is ∙ missing_report_plain zone content patterns helds) ∙ ap compact_text is)

pub returns-clause-days : goal.returns-clause-days
returns-clause-days g c = days_found

pub returns-in_err-lines-clause-days : goal.returns-in_err-lines-clause-days
returns-in_err-lines-clause-days g c = days_found

pub returns-in_err-named-clause-days : goal.returns-in_err-named-clause-days
returns-in_err-named-clause-days g c = days_found

pub returns-in_err-values-clause-days : goal.returns-in_err-values-clause-days
returns-in_err-values-clause-days g c = days_found

pub returns-in_err-ids-clause-days : goal.returns-in_err-ids-clause-days
returns-in_err-ids-clause-days g c = days_found

pub returns-in_err-sysmods-clause-days : goal.returns-in_err-sysmods-clause-days
returns-in_err-sysmods-clause-days g c = days_found

pub returns-in_err-value-clause-days : goal.returns-in_err-value-clause-days
returns-in_err-value-clause-days g c = days_found

pub returns-in_err-compact-clause-days : goal.returns-in_err-compact-clause-days
returns-in_err-compact-clause-days g c = days_found
