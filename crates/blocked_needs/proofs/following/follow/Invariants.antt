use Rattle.std.proofs.Common.{List, ℕ}
use Rattle.catalogue.proofs.TellingFacts.{HasTold}
use Rattle.blocked_needs.specs.Seen.{AreSeen}
use Rattle.blocked_needs.proofs.BlockedFacts.{ArePartlySeen}
use Rattle.blocked_needs.proofs.following.follow.Given as goal

abbrev pub invariant-givers : goal.invariant-givers
invariant-givers g l = HasTold g.P.Published.content_view l.fn.source l.source (λ content. g.J.Judge.is_right l.fn.judge content
    → ((starts : List (List ℕ)) → AreSeen content l.zone starts l.fn.seen.entries → ArePartlySeen content l.zone starts l.start l.seen.entries l.next) × g.J.Judge.is_right l.judge content)
