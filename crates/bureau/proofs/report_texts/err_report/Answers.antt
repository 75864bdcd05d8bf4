use Rattle.std.proofs.Common.{◌∙◌, ap}
use Rattle.reports.specs.ReportText.{err_text_of}
use Rattle.bureau.proofs.TextFacts.{written}
use Rattle.bureau.proofs.report_texts.err_report.Goals as goal

pub returns : goal.returns
returns g c =
    written g.J.Judge.is_right _ _ _ _ _ _ c.in_ok-rows.ensures.asks c.in_ok-rows.ensures.rows c.in_ok-rows.ensures.right (λ content rows. c.in_ok-err_text.ensures ∙ ap (err_text_of c.args.zone.now) (c.deref.ensures.value ∙ rows))
