use Rattle.std.proofs.Common.{◌≡◌, None, take}
use Rattle.std.specs.List.{find}
use Rattle.supersede.specs.Giving.{is_candidate}
use Rattle.catalogue.proofs.TellingFacts.{HasTold}
use Rattle.blocked_needs.proofs.applying.first_that_applies.Given as goal

abbrev pub invariant-loop-id : goal.invariant-loop-id
invariant-loop-id g l = HasTold g.P.Published.content_view l.fn.source l.source (λ content. find (is_candidate content l.zone) (take l.id-index l.ids) ≡ None)
