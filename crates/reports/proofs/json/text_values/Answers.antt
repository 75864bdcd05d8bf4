use Rattle.std.proofs.Common.{◌∙◌, ap}
use Rattle.std.proofs.lemmas.List.{take_all}
use Rattle.reports.specs.ChainText.{texts}
use Rattle.reports.proofs.ChainFacts.{texts_by}
use Rattle.reports.proofs.json.text_values.Goals as goal

pub returns : goal.returns
returns c =
    texts_by c.loop-id.values.items _ c.loop-id.invariant ∙ ap texts (take_all c.loop-id.id-index c.args.ids.now c.loop-id-test.false)
