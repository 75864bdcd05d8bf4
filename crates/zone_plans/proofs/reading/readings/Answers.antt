use Rattle.catalogue.proofs.SourceFacts.{no_fault}
use Rattle.catalogue.proofs.TellingFacts.{tells_on}
use Rattle.zone_plans.specs.Readings.{reading_of}
use Rattle.zone_plans.proofs.ChoiceFacts.{map_more}
use Rattle.zone_plans.proofs.reading.readings.Goals as goal

pub loop-id-preserved : goal.loop-id-preserved
loop-id-preserved g c =
    tells_on g.met.P.Published.lawful c.loop-id.invariant c.in_ok-read_member.ensures.asks.keeps (λ standing. c.in_ok-read_member.ensures.asks.stays_open (no_fault _) standing) c.in_ok-read_member.ensures.reading (λ content so_far is.
    map_more (reading_of content c.args.zone.now) c.args.ids.now c.loop-id.id-index c.id-item.result c.in_ok-read_member.field-0 c.loop-id.readings.items c.push.new.self.items
    c.loop-id-test.true c.id-item.is so_far is c.in_ok-push.ensures.items)
