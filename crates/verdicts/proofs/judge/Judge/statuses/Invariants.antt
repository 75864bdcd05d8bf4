use Rattle.std.proofs.Common.{◌≡◌, map, take}
use Rattle.catalogue.proofs.TellingFacts.{HasTold}
use Rattle.verdicts.specs.Judge.{status_of}
use Rattle.verdicts.specs.Verdicts.{verdict_of}
use Rattle.verdicts.proofs.judge.Judge.statuses.Given as goal

abbrev pub invariant-loop-id : goal.invariant-loop-id
invariant-loop-id g l =
    HasTold g.P.Published.content_view l.fn.source l.source (λ content.
    g.Self.Judge.is_right l.fn.self content
    → (l.statuses.items ≡ map (λ id. status_of (verdict_of content l.zone id)) (take l.id-index l.ids)) × g.Self.Judge.is_right l.self content)
