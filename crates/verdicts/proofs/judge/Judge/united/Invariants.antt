use Rattle.std.proofs.Common.{◌≡◌, take}
use Rattle.catalogue.proofs.TellingFacts.{HasTold}
use Rattle.verdicts.specs.United.{united}
use Rattle.verdicts.proofs.judge.Judge.united.Given as goal

abbrev pub invariant-loop-id : goal.invariant-loop-id
invariant-loop-id g l =
    HasTold g.P.Published.content_view l.fn.source l.source (λ content.
    g.Self.Judge.is_right l.fn.self content → (l.found.keys ≡ united content l.zone (take l.id-index l.ids)) × g.Self.Judge.is_right l.self content)
