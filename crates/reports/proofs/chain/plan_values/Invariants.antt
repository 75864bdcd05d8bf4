use Rattle.std.proofs.Common.{◌≡◌, map, take}
use Rattle.serde_json.specs.View.{view}
use Rattle.catalogue.proofs.TellingFacts.{HasTold}
use Rattle.reports.specs.ChainText.{plan_member}
use Rattle.reports.proofs.chain.plan_values.Given as goal

-- the values are the members so far
abbrev pub invariant-loop-id : goal.invariant-loop-id
invariant-loop-id g l =
    HasTold g.P.Published.content_view l.fn.source l.source
    (λ content. map view l.values.items ≡ map (plan_member content) (take l.id-index l.plan))
