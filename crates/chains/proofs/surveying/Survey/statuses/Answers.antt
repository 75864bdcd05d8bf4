use Rattle.std.proofs.Common.{◌∙◌, ap, map}
use Rattle.std.proofs.lemmas.List.{take_all}
use Rattle.verdicts.specs.Judge.{status_of}
use Rattle.verdicts.specs.Verdicts.{verdict_of}
use Rattle.verdicts.proofs.IndexFacts.{made_more}
use Rattle.chains.proofs.surveying.Survey.statuses.Goals as goal

pub loop-id-preserved : goal.loop-id-preserved
loop-id-preserved c = λ content rows is.
    made_more (λ id. status_of (verdict_of content rows id)) c.args.ids.now c.loop-id.id-index c.id-item.result c.status.result c.loop-id.statuses.items _
    c.loop-id-test.true c.id-item.is (c.loop-id.invariant content rows is) c.in_ok-push.ensures.items
    (c.status.ensures content rows is)

pub returns : goal.returns
returns c = λ content rows is.
    c.loop-id.invariant content rows is
    ∙ ap (map (λ id. status_of (verdict_of content rows id))) (take_all c.loop-id.id-index c.args.ids.now c.loop-id-test.false)
