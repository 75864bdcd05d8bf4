-- The effect of the code as that of the definitions.
use Rattle.zone_lists.specs.ZoneList.{RowsAscend}
use Rattle.catalogue.specs.Ids.{Ascend}
use Rattle.bureau_store.specs.Effect as store
use Rattle.bureau_store.specs.Effect.{publication, zone_put, zone_dropped, received_put, patterns_put}
use Rattle.bureau_store.specs.Tables.{PatternsAscend}
use Rattle.bureau_store.specs.declared.caller.Caller.{Caller}
use Rattle.bureau_store.specs.declared.caller.Caller.TheVariants.{Publisher, Client}
use Rattle.bureau_store.specs.declared.effect.Effect.{Effect}
use Rattle.bureau_store.specs.declared.effect.Effect.TheVariants.{Publication, ZonePut, ZoneDropped, ReceivedPut, PatternsPut}

-- the effect of a change on the tables
abbrev pub effect_as : Effect → store.Effect
effect_as (Publication changes) = publication changes.now
effect_as (ZonePut client zone rows) = zone_put zone.now rows.now
effect_as (ZoneDropped client zone) = zone_dropped zone.now
effect_as (ReceivedPut client ids) = received_put ids.now
effect_as (PatternsPut client zone patterns) = patterns_put zone.now patterns.now

-- the caller whose change has this effect
abbrev pub maker_of : Effect → Caller
maker_of (Publication changes) = Publisher
maker_of (ZonePut client zone rows) = Client client.now
maker_of (ZoneDropped client zone) = Client client.now
maker_of (ReceivedPut client ids) = Client client.now
maker_of (PatternsPut client zone patterns) = Client client.now

-- the lists that are put ascend
abbrev pub IsAscending : Effect → Type 0
IsAscending (Publication changes) = Unit {0}
IsAscending (ZonePut client zone rows) = RowsAscend rows.now
IsAscending (ZoneDropped client zone) = Unit {0}
IsAscending (ReceivedPut client ids) = Ascend ids.now
IsAscending (PatternsPut client zone patterns) = PatternsAscend patterns.now
