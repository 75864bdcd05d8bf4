use Rattle.std.proofs.Common.{refl, sym}
use Rattle.bureau_store.specs.Effect.{publication, zone_put, zone_dropped, received_put, patterns_put}
use Rattle.bureau_store.specs.Store.{update}
use Rattle.bureau_store.specs.declared.caller.Caller.TheVariants.{Publisher, Client}
use Rattle.bureau.proofs.CommitFacts.{makes_effect, nothing_handed}
use Rattle.bureau.specs.declared.outcome.Effect.TheVariants.{Publication, ZonePut, ZoneDropped, ReceivedPut, PatternsPut}
use Rattle.bureau.proofs.commit.commit.Goals as goal

pub returns-in-Publication-clause-right : goal.returns-in-Publication-clause-right
returns-in-Publication-clause-right g c content right = c.drop_touched.ensures.stays content right

pub returns-in-Publication-clause-makes : goal.returns-in-Publication-clause-makes
returns-in-Publication-clause-makes g c =
    makes_effect c.args.change.now.effect (Publication c.in-Publication.changes c.in-Publication.touched) (sym c.in-Publication.is) c.args.change.now.number
    (λ reply what. update Publisher (publication what) c.args.change.now.number reply) c.as_slice-reply.ensures.value c.deref-in-Publication.ensures.value c.publish.ensures.makes refl

pub returns-in-ZonePut-clause-makes : goal.returns-in-ZonePut-clause-makes
returns-in-ZonePut-clause-makes g c =
    makes_effect c.args.change.now.effect (ZonePut c.in-ZonePut.client c.in-ZonePut.zone c.in-ZonePut.rows) (sym c.in-ZonePut.is) c.args.change.now.number
    (λ reply what. update (Client c.in-ZonePut.client) (zone_put c.in-ZonePut.zone what) c.args.change.now.number reply) c.as_slice-reply.ensures.value c.deref-in-ZonePut.ensures.value c.put_zone.ensures.makes refl

pub returns-in-ZoneDropped-clause-makes : goal.returns-in-ZoneDropped-clause-makes
returns-in-ZoneDropped-clause-makes g c =
    makes_effect c.args.change.now.effect (ZoneDropped c.in-ZoneDropped.client c.in-ZoneDropped.zone) (sym c.in-ZoneDropped.is) c.args.change.now.number
    (λ reply what. update (Client c.in-ZoneDropped.client) (zone_dropped c.in-ZoneDropped.zone) c.args.change.now.number reply) c.as_slice-reply.ensures.value nothing_handed c.drop_zone.ensures.makes refl

pub returns-in-ReceivedPut-clause-makes : goal.returns-in-ReceivedPut-clause-makes
returns-in-ReceivedPut-clause-makes g c =
    makes_effect c.args.change.now.effect (ReceivedPut c.in-ReceivedPut.client c.in-ReceivedPut.ids) (sym c.in-ReceivedPut.is) c.args.change.now.number
    (λ reply what. update (Client c.in-ReceivedPut.client) (received_put what) c.args.change.now.number reply) c.as_slice-reply.ensures.value c.deref-in-ReceivedPut.ensures.value c.put_received.ensures.makes refl

pub returns-in-PatternsPut-clause-makes : goal.returns-in-PatternsPut-clause-makes
returns-in-PatternsPut-clause-makes g c =
    makes_effect c.args.change.now.effect (PatternsPut c.in-PatternsPut.client c.in-PatternsPut.zone c.in-PatternsPut.patterns) (sym c.in-PatternsPut.is) c.args.change.now.number
    (λ reply what. update (Client c.in-PatternsPut.client) (patterns_put c.in-PatternsPut.zone what) c.args.change.now.number reply) c.as_slice-reply.ensures.value c.deref-in-PatternsPut.ensures.value c.put_patterns.ensures.makes refl
