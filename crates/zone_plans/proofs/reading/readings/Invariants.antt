use Rattle.std.proofs.Common.{◌≡◌, map, take}
use Rattle.catalogue.proofs.TellingFacts.{HasTold}
use Rattle.zone_plans.specs.Readings.{reading_of}
use Rattle.zone_plans.proofs.reading.readings.Given as goal

abbrev pub invariant-loop-id : goal.invariant-loop-id
invariant-loop-id g l = HasTold g.P.Published.content_view l.fn.source l.source (λ content. l.readings.items ≡ map (reading_of content l.zone) (take l.id-index l.ids))
