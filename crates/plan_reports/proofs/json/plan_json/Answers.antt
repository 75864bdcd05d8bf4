use Rattle.std.proofs.Common.{◌∙◌, ap}
use Rattle.serde_json.specs.Written.{compact_text, has_float}
use Rattle.lemmas.proofs.ResultFacts.{ok_so}
use Rattle.plan_reports.proofs.JsonFacts.{plan_plain}
use Rattle.plan_reports.proofs.json.plan_json.Goals as goal

pub returns : goal.returns
returns c =
    ok_so c.compact.result c.compact.ensures (λ text is.
    is (ap has_float c.in_ok-value.ensures ∙ plan_plain c.args.report c.args.zone.now c.args.members.now c.args.plan.now) ∙ ap compact_text c.in_ok-value.ensures)
