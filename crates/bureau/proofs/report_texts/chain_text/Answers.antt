use Rattle.std.proofs.Common.{◌∙◌, ap}
use Rattle.reports.specs.ChainText.{chain_text_of}
use Rattle.bureau.proofs.TextFacts.{written_on}
use Rattle.bureau.proofs.report_texts.chain_text.Goals as goal

pub returns : goal.returns
returns g c =
    written_on g.J.Judge.is_right _ _ _ _ _ _ c.plan_json.result g.met.P.Published.lawful c.in_ok-verdict.ensures.asks c.in_ok-verdict.ensures.verdict c.in_ok-verdict.ensures.right c.plan_json.ensures.asks c.plan_json.ensures.text (λ text content found is.
    is ∙ ap (chain_text_of content c.args.zone.now c.args.sysmod.now) (found))
