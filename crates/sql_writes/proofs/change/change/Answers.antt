use Rattle.std.proofs.Common.{◌≡◌, length, refl, subst, true}
use Rattle.std.specs.Prelude.{map}
use Rattle.sql_tables.specs.Changes.{going, instead, with_head}
use Rattle.sql_tables.specs.Fit.{IsFit}
use Rattle.sql_tables.specs.Rows.{zone_row}
use Rattle.sql_tables.specs.Stored.{head_table, is_of_both, row_table}
use Rattle.sql_rows.proofs.ChangeFacts.{both}
use Rattle.sql_writes.proofs.LastFacts.{by_effect}
use Rattle.bureau_store.specs.Effects.{effect_as}
use Rattle.sql_writes.specs.Room.{is_short_effect}
use Rattle.bureau_store.specs.declared.effect.Effect.{Effect}
use Rattle.sql_writes.proofs.LeaveFacts.{rows_new}
use Rattle.sql_rows.proofs.AbsentFacts.{every}
use Rattle.sql_writes.proofs.TakeFacts.{takes_of, takes_then}
use Rattle.sql_writes.proofs.change.change.Goals as goal

pub returns-in_ok-keep_head-in-ZonePut-clause-changes : goal.returns-in_ok-keep_head-in-ZonePut-clause-changes
returns-in_ok-keep_head-in-ZonePut-clause-changes g c =
    let client = c.in-ZonePut.client.now in
    let zone = c.in-ZonePut.zone.now in
    let news = c.in-ZonePut.rows.now in
    by_effect _ _ _ _ _ c.in-ZonePut.is
    (both _ _ _ tt _ (λ stored. record stored { heads = with_head client zone stored.heads }) (instead row_table (is_of_both client zone) (map (zone_row client zone) news)) _
    (λ stored. refl)
    c.in_ok-keep_head-in-ZonePut.ensures.changes c.replace.ensures.changes)

pub returns-in_ok-any_of-in-ZoneDropped-clause-changes : goal.returns-in_ok-any_of-in-ZoneDropped-clause-changes
returns-in_ok-any_of-in-ZoneDropped-clause-changes g c =
    let client = c.in-ZoneDropped.client.now in
    let zone = c.in-ZoneDropped.zone.now in
    by_effect _ _ _ _ _ c.in-ZoneDropped.is
    (both _ _ _ tt _ (going head_table (is_of_both client zone)) (going row_table (is_of_both client zone)) _ (λ stored. refl) c.in_ok-any_of-in-ZoneDropped.ensures.changes c.any_of-in-ZoneDropped.ensures.changes)

pub returns-in-ReceivedPut-clause-changes : goal.returns-in-ReceivedPut-clause-changes
returns-in-ReceivedPut-clause-changes g c = by_effect _ _ _ _ _ c.in-ReceivedPut.is c.replace_joined.ensures.changes

pub returns-in-PatternsPut-clause-changes : goal.returns-in-PatternsPut-clause-changes
returns-in-PatternsPut-clause-changes g c = by_effect _ _ _ _ _ c.in-PatternsPut.is c.replace_joined-in-PatternsPut.ensures.changes

pub returns-in_ok-keep_head-in-ZonePut-clause-takes : goal.returns-in_ok-keep_head-in-ZonePut-clause-takes
returns-in_ok-keep_head-in-ZonePut-clause-takes g c fit short =
    let client = c.in-ZonePut.client.now in
    let zone = c.in-ZonePut.zone.now in
    let known = subst (λ (it : Effect). IsFit (effect_as it)) c.in-ZonePut.is fit in
    takes_of _ _ _ _ _ c.in-ZonePut.is
    (takes_then _ _ _ tt _ (λ stored. record stored { heads = with_head client zone stored.heads }) 1 (length c.in-ZonePut.rows.now) (λ stored. Unit {0}) (λ stored. Unit {0}) (λ stored u. tt)
    c.in_ok-keep_head-in-ZonePut.ensures.changes c.in_ok-keep_head-in-ZonePut.ensures.takes c.replace.ensures.changes.survives
    (c.replace.ensures.takes (every (λ row. Unit {0}) (λ row. tt) _) (rows_new client zone c.in-ZonePut.rows.now known.1)))

pub returns-in_ok-any_of-in-ZoneDropped-clause-takes : goal.returns-in_ok-any_of-in-ZoneDropped-clause-takes
returns-in_ok-any_of-in-ZoneDropped-clause-takes g c fit short =
    takes_of _ _ _ _ _ c.in-ZoneDropped.is
    (takes_then _ _ _ tt _ (going head_table (is_of_both c.in-ZoneDropped.client.now c.in-ZoneDropped.zone.now)) 0 0 (λ stored. Unit {0}) (λ stored. Unit {0}) (λ stored u. tt)
    c.in_ok-any_of-in-ZoneDropped.ensures.changes c.in_ok-any_of-in-ZoneDropped.ensures.takes c.any_of-in-ZoneDropped.ensures.changes.survives c.any_of-in-ZoneDropped.ensures.takes)

pub returns-in-ReceivedPut-clause-takes : goal.returns-in-ReceivedPut-clause-takes
returns-in-ReceivedPut-clause-takes g c fit short =
    let small = subst (λ (it : Effect). is_short_effect (effect_as it) ≡ true) c.in-ReceivedPut.is short in
    takes_of _ _ _ _ _ c.in-ReceivedPut.is (c.replace_joined.ensures.takes small)

pub returns-in-PatternsPut-clause-takes : goal.returns-in-PatternsPut-clause-takes
returns-in-PatternsPut-clause-takes g c fit short =
    let small = subst (λ (it : Effect). is_short_effect (effect_as it) ≡ true) c.in-PatternsPut.is short in
    takes_of _ _ _ _ _ c.in-PatternsPut.is (c.replace_joined-in-PatternsPut.ensures.takes small)
