-- No part of what is promised: private contracts cite it. An outcome of the code as that of the definitions, and an effect
-- so too. `Outcome` defines the outcome of a call.
use Rattle.std.specs.Prelude.{◌≡◌, ◌≤◌, ◌+◌, ℕ, List, Option, Result, Ok, Err, is_some, length, true}
use Rattle.std.specs.Cmp.Lexicographic.{slice_cmp}
use Rattle.std.specs.List.Sorted.{IsStrictlySortedBy}
use Rattle.std.specs.Ordering.{nat_cmp}
use Rattle.zone_lists.specs.ZoneList.{RowsAscend}
use Rattle.catalogue.specs.Ids.{Ascend}
use Rattle.catalogue.specs.Content.{Content, IsInOrder}
use Rattle.catalogue.specs.Publication.{after}
use Rattle.catalogue.specs.Touched.{AgreeOutside}
use Rattle.bureau_store.specs.Caller.{IsProper}
use Rattle.bureau_store.specs.Effect as store
use Rattle.bureau_store.specs.Effect.{publication, zone_put, zone_dropped, received_put, patterns_put}
use Rattle.bureau_store.specs.Store.{HasZone, Update, greatest_number, update, zones_of}
use Rattle.bureau_store.specs.Tables.{LastChange, Tables, ZoneTable}
use Rattle.bureau_store.specs.declared.caller.Caller.{Caller}
use Rattle.bureau_store.specs.declared.caller.Caller.TheVariants.{Publisher, Client}
use Rattle.bureau.specs.Call.{Call}
use Rattle.bureau.specs.Outcome as spec
use Rattle.bureau.specs.Outcome.{Answer, answered, accepted, in_turn, no_room, of_zone, outcome}
use Rattle.bureau.specs.Replies.{reply_as}
use Rattle.bureau.specs.View.{view_of}
use Rattle.bureau.specs.declared.outcome.Outcome.{Outcome}
use Rattle.bureau.specs.declared.outcome.Outcome.TheVariants.{Answered, Accepted}
use Rattle.bureau.specs.declared.outcome.Effect.{Effect}
use Rattle.bureau.specs.declared.outcome.Effect.TheVariants.{Publication, ZonePut, ZoneDropped, ReceivedPut, PatternsPut}
use Rattle.bureau.specs.declared.outcome.AcceptedChange.{AcceptedChange}
use Rattle.bureau.specs.declared.reply.Reply.{Reply}

-- the effect of an accepted change on the tables
abbrev pub effect_as : Effect → store.Effect
effect_as (Publication changes touched) = publication changes.items
effect_as (ZonePut client zone rows) = zone_put zone rows.items
effect_as (ZoneDropped client zone) = zone_dropped zone
effect_as (ReceivedPut client ids) = received_put ids.items
effect_as (PatternsPut client zone patterns) = patterns_put zone patterns.items

-- the caller whose change has this effect
abbrev pub maker_of : Effect → Caller
maker_of (Publication changes touched) = Publisher
maker_of (ZonePut client zone rows) = Client client
maker_of (ZoneDropped client zone) = Client client
maker_of (ReceivedPut client ids) = Client client
maker_of (PatternsPut client zone patterns) = Client client

abbrev pub outcome_as : Outcome → spec.Outcome
outcome_as (Answered reply) = answered (reply_as reply)
outcome_as (Accepted change) = accepted (effect_as change.effect) change.reply.items

-- the lists that are put ascend, and no client has the publisher's name
abbrev pub IsFitEffect : Effect → Type 0
IsFitEffect (Publication changes touched) = Unit {0}
IsFitEffect (ZonePut client zone rows) = IsProper (Client client) × RowsAscend rows.items
IsFitEffect (ZoneDropped client zone) = IsProper (Client client)
IsFitEffect (ReceivedPut client ids) = IsProper (Client client) × Ascend ids.items
IsFitEffect (PatternsPut client zone patterns) = IsProper (Client client) × IsStrictlySortedBy (slice_cmp nat_cmp) patterns.items

abbrev pub IsFitChange : AcceptedChange → Type 0
IsFitChange change = (change.number ≤ greatest_number) × IsFitEffect change.effect

abbrev pub IsFit : Outcome → Type 0
IsFit (Answered reply) = Unit {0}
IsFit (Accepted change) = IsFitChange change

-- the change of the store
abbrev pub update_of : AcceptedChange → Update
update_of change = update (maker_of change.effect) (effect_as change.effect) change.number change.reply.items

-- a publication touches no more than it is said to touch
abbrev pub TouchesNoMore : Effect → Content → Type 0
TouchesNoMore (Publication changes touched) content = AgreeOutside touched.items content (after content changes.items)
TouchesNoMore (ZonePut client zone rows) content = Unit {0}
TouchesNoMore (ZoneDropped client zone) content = Unit {0}
TouchesNoMore (ReceivedPut client ids) content = Unit {0}
TouchesNoMore (PatternsPut client zone patterns) content = Unit {0}

-- the zone that an effect names is there, and it touches no more than it says
abbrev pub Suits : Effect → Tables → Type 0
Suits effect this =
    HasZone (effect_as effect) (zones_of (maker_of effect) this) × (IsInOrder this.content → TouchesNoMore effect this.content)

-- an accepted change has the caller's next number, and its effect suits the tables
abbrev pub IsNext : Caller → Tables → Outcome → Type 0
IsNext caller this (Answered reply) = Unit {0}
IsNext caller this (Accepted change) =
    (change.number ≡ (this.last caller).number + 1) × (maker_of change.effect ≡ caller) × Suits change.effect this

-- the outcome of a call over these tables
abbrev pub IsOutcome : Caller → Call → Tables → Outcome → Type 0
IsOutcome caller call this found = (outcome_as found ≡ outcome (view_of caller this) call) × IsNext caller this found

-- the outcome of a call over these tables is this reply alone
abbrev pub IsReplyTo : Caller → Call → Tables → Reply → Type 0
IsReplyTo caller call this reply = answered (reply_as reply) ≡ outcome (view_of caller this) call

-- a change is in turn, with its number, or else has this reply
abbrev pub IsInTurn : LastChange → Option ℕ → Result ℕ Reply → Type 0
IsInTurn last number (Ok next) = (next ≡ last.number + 1) × ((change : spec.Outcome) → in_turn last number change ≡ change)
IsInTurn last number (Err reply) = (change : spec.Outcome) → in_turn last number change ≡ answered (reply_as reply)

-- so is a change to a zone that is there
abbrev pub IsInTurnAt : LastChange → Option ZoneTable → Option ℕ → Result ℕ Reply → Type 0
IsInTurnAt last found number (Ok next) = IsInTurn last number (Ok next) × (is_some found ≡ true)
IsInTurnAt last found number (Err reply) = (change : ZoneTable → spec.Outcome) → in_turn last number (of_zone found change) ≡ answered (reply_as reply)

-- a zone as it is counted: its name, and the number of its rows
abbrev pub counted_as : List ℕ × ZoneTable → List ℕ × ℕ
counted_as zone = (zone.0, length zone.1.rows)

-- if there is a reply, the outcome is that reply alone
abbrev pub IsReplyAlone : {E : Type 0} → Result Reply E → Result Outcome E → Type 0
IsReplyAlone (Ok reply) result = result ≡ Ok (Answered reply)
IsReplyAlone (Err fault) result = result ≡ Err fault

-- the answer to a call: if it isn't made, there is no room
abbrev pub answer_in : {E : Type 0} → Result Reply E → Answer
answer_in (Ok reply) = reply_as reply
answer_in (Err fault) = no_room
