use Rattle.std.proofs.Common.{◌∙◌, ap}
use Rattle.std.proofs.lemmas.List.{take_all}
use Rattle.reports.specs.ChainText.{reasons_in, texts}
use Rattle.reports.proofs.ChainFacts.{texts_by}
use Rattle.reports.proofs.chain.reasons.Goals as goal

pub returns : goal.returns
returns c =
    texts_by c.loop-hold.values.items _ c.loop-hold.invariant
    ∙ ap (λ holds. texts (reasons_in c.args.kind holds)) (take_all c.loop-hold.hold-index c.args.holds.now c.loop-hold-test.false)
