use Rattle.std.proofs.Common.{◌≡◌, map, take}
use Rattle.catalogue.specs.Seen.{seen_in}
use Rattle.catalogue.proofs.TellingFacts.{HasTold}
use Rattle.catalogue.proofs.published.Published.seen.Given as goal

abbrev pub invariant-loop-id : goal.invariant-loop-id
invariant-loop-id g l = HasTold g.Self.Published.content_view l.fn.self l.self (λ content. l.found.items ≡ map (seen_in content) (take l.id-index l.ids))
