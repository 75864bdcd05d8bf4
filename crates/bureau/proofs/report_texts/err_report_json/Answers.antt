use Rattle.std.proofs.Common.{◌∙◌, ap}
use Rattle.report_json.specs.Json.{err_json_of}
use Rattle.bureau.proofs.TextFacts.{written_on}
use Rattle.bureau.proofs.report_texts.err_report_json.Goals as goal

pub returns : goal.returns
returns g c =
    written_on g.J.Judge.is_right _ _ _ _ _ _ c.err_json.result g.met.P.Published.lawful c.in_ok-helds.ensures.asks c.in_ok-helds.ensures.holds c.in_ok-helds.ensures.right c.err_json.ensures.asks c.err_json.ensures.text (λ text content found is.
    is ∙ ap (err_json_of content c.args.zone.now) (c.deref.ensures.value ∙ found))
