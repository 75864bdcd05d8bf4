use Rattle.std.proofs.Common.{◌∙◌, List, ap}
use Rattle.holddata.specs.declared.hold.Hold.{Hold}
use Rattle.catalogue.specs.Content.{holds_on}
use Rattle.catalogue.proofs.TellingFacts.{told_by_two}
use Rattle.zone_plans.specs.Readings.{reading_from}
use Rattle.zone_plans.proofs.reading.read_member.Goals as goal

pub returns-clause-reading : goal.returns-clause-reading
returns-clause-reading g c =
    let law = g.met.P.Published in
    told_by_two (law.lawful.keeps _ _ c.in_ok-sysmod.ensures.asks.keeps) (law.lawful.keeps _ _ c.in_ok-holds.ensures.asks.keeps) c.in_ok-sysmod.ensures.sysmod c.in_ok-holds.ensures.holds (λ content sysmod holds.
    c.in_ok-reading_from.ensures
    ∙ ap (λ (l : List Hold). reading_from c.args.zone.now c.in_ok-sysmod.sysmod l) (c.deref.ensures.value ∙ holds)
    ∙ ap (λ found. reading_from c.args.zone.now found (holds_on content c.args.id.now)) sysmod)
