use Rattle.std.proofs.Common.{take}
use Rattle.catalogue.proofs.TellingFacts.{HasTold}
use Rattle.blocked_needs.specs.Seen.{AreSeen}
use Rattle.blocked_needs.proofs.following.blocked_needs.Given as goal

abbrev pub invariant-loop-id : goal.invariant-loop-id
invariant-loop-id g l = HasTold g.P.Published.content_view l.fn.source l.source (λ content. g.J.Judge.is_right l.fn.judge content
    → (AreSeen content l.zone (take l.id-index l.sysmods) l.seen.entries) × g.J.Judge.is_right l.judge content)
