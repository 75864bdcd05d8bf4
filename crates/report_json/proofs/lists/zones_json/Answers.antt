use Rattle.std.proofs.Common.{◌∙◌, ap}
use Rattle.serde_json.specs.Written.{compact_text, has_float}
use Rattle.lemmas.proofs.ResultFacts.{ok_so}
use Rattle.report_json.proofs.JsonFacts.{zones_plain}
use Rattle.report_json.proofs.lists.zones_json.Goals as goal

pub returns : goal.returns
returns c =
    ok_so c.compact.result c.compact.ensures (λ text is.
    is (ap has_float c.in_ok-value.ensures ∙ zones_plain c.args.zones.now) ∙ ap compact_text c.in_ok-value.ensures)
