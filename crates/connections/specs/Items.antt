-- What happens to connections beside one desk, each in its slot: one item after the other.
use Rattle.std.specs.Prelude.{◌≡◌, ◌≢◌, ◌⊎◌, ℕ, ◌+◌, ◌≤◌, List, [], ◌∷◌, ◌++◌, length, sum_by, Option, Some, None, slice_get, slice_set}
use Rattle.std.specs.List.{flat_map}
use Rattle.log_lines.specs.declared.note.Note.{Note}
use Rattle.requests.specs.NextRequest.{IsUnfinished}
use Rattle.bureau_store.specs.declared.caller.CallerRow.{CallerRow}
use Rattle.bureau_http.specs.Asked.{Asked}
use Rattle.bureau_http.specs.Connection.{IsLast, IsRequest}
use Rattle.bureau_http.specs.Exchange.{Exchange, IsAnswered, exchange_text}
use Rattle.bureau_http.specs.Noted.{IsNoted}
use Rattle.connections.specs.declared.connection.Connection.{Connection}
use Rattle.connections.specs.declared.connection.Phase.TheVariants.{Open, Ended, Last}
use Rattle.connections.specs.declared.event.Event as code

-- a connection that has just come: nothing came over it, nothing has to go out or was noted, and its next request is its first
abbrev pub fresh : Connection
fresh = record { held = []; out = []; note = None; ordinal = 1; phase = Open }

-- the connection in each slot
abbrev pub Slots : Type 0
Slots = List (Option Connection)

-- ---- what is told of a connection, by its slot

-- It came; these bytes came; so many of the bytes that have to go out were written; its peer ended its side; a read or a
-- write of it failed; or its time is up.
pub data Event : Type 0 where
  came : ℕ → Event
  bytes : ℕ → List ℕ → Event
  wrote : ℕ → ℕ → Event
  ended : ℕ → Event
  failed : ℕ → Event
  late : ℕ → Event

-- as the code has it
abbrev pub event_of : code.Event → Event
event_of (code.TheVariants.Came slot) = came slot
event_of (code.TheVariants.Bytes slot text) = bytes slot text.items
event_of (code.TheVariants.Wrote slot count) = wrote slot count
event_of (code.TheVariants.Ended slot) = ended slot
event_of (code.TheVariants.Failed slot) = failed slot
event_of (code.TheVariants.Late slot) = late slot

-- the slot of its connection
abbrev pub slot_of : Event → ℕ
slot_of (came slot) = slot
slot_of (bytes slot text) = slot
slot_of (wrote slot count) = slot
slot_of (ended slot) = slot
slot_of (failed slot) = slot
slot_of (late slot) = slot

-- the number of connections that come with an event, and with all of these
abbrev pub comers_in : Event → ℕ
comers_in (came slot) = 1
comers_in (bytes slot text) = 0
comers_in (wrote slot count) = 0
comers_in (ended slot) = 0
comers_in (failed slot) = 0
comers_in (late slot) = 0

abbrev pub comers : List Event → ℕ
comers events = sum_by comers_in events

-- all slots are free
abbrev pub AreFree : Slots → Type 0
AreFree slots = (slot : ℕ) (connection : Connection) → slice_get slots slot ≢ Some (Some connection)

-- ---- what an item does to the connection in a slot

-- the connection in a slot goes on, and no other does
pub record Moves (old : Slots) (slot : ℕ) (new : Slots) (Turn : Connection → Connection → Type 0) : Type 0 where
  pub before : Connection
  pub after : Connection
  pub at : slice_get old slot ≡ Some (Some before)
  pub turn : Turn before after
  pub new_is : new ≡ slice_set old slot (Some after)

-- the connection in a slot leaves it, and no other does
pub record Leaves (old : Slots) (slot : ℕ) (new : Slots) (Why : Connection → Type 0) : Type 0 where
  pub before : Connection
  pub at : slice_get old slot ≡ Some (Some before)
  pub why : Why before
  pub new_is : new ≡ slice_set old slot None

-- these bytes came to a connection that reads on
abbrev pub Grows : List ℕ → Connection → Connection → Type 0
Grows text old new = (old.phase ≡ Open) × (new ≡ record { held = old.held ++ text; out = old.out; note = old.note; ordinal = old.ordinal; phase = Open })

-- these bytes were the first of what has to go out, and were written
abbrev pub Sends : List ℕ → Connection → Connection → Type 0
Sends text old new =
    (rest : List ℕ) × (old.out ≡ text ++ rest) × (new ≡ record { held = old.held; out = rest; note = old.note; ordinal = old.ordinal; phase = old.phase })

-- its peer ended its side: no more bytes come
abbrev pub IsEnded : Connection → Connection → Type 0
IsEnded old new = (old.phase ≡ Open) × (new ≡ record { held = old.held; out = old.out; note = old.note; ordinal = old.ordinal; phase = Ended })

-- Its last reply went out whole, and it isn't the last one of all.
abbrev pub IsReady : Connection → Type 0
IsReady old = (old.out ≡ []) × (old.phase ≢ Last)

-- the request is the next one in its bytes
abbrev pub Asks : List CallerRow → Connection → Asked → Type 0
Asks rows old asked = IsLast rows old.ordinal old.held asked ⊎ ((following : List ℕ) × IsRequest rows old.ordinal old.held asked following)

-- The next request was answered. Its reply has to go out, with this note beside it, and the bytes after the request are
-- still held; or it was the last.
abbrev pub PutsWith : Note → List CallerRow → Exchange → Connection → Connection → Type 0
PutsWith note rows exchange old new =
    ((following : List ℕ) × IsRequest rows old.ordinal old.held exchange.asked following
    × (new ≡ record { held = following; out = exchange_text exchange; note = Some note; ordinal = old.ordinal + 1; phase = old.phase }))
    ⊎ (IsLast rows old.ordinal old.held exchange.asked
    × (new ≡ record { held = []; out = exchange_text exchange; note = Some note; ordinal = old.ordinal; phase = Last }))

-- The note is the log's note of that request.
abbrev pub Puts : List CallerRow → Exchange → Connection → Connection → Type 0
Puts rows exchange old new = (note : Note) × IsNoted rows old.held exchange note × PutsWith note rows exchange old new

abbrev pub Answers : List CallerRow → Exchange → Connection → Connection → Type 0
Answers rows exchange old new = IsReady old × IsAnswered exchange × Puts rows exchange old new

-- the next request was answered, and there was no memory for the reply
abbrev pub Loses : List CallerRow → Exchange → Connection → Type 0
Loses rows exchange old = IsReady old × IsAnswered exchange × Asks rows old exchange.asked

-- All its replies went out whole. The last one ended it, or its peer did, and no further whole request has come.
abbrev pub IsDone : Connection → Type 0
IsDone old = (old.out ≡ []) × ((old.phase ≡ Last) ⊎ ((old.phase ≡ Ended) × IsUnfinished old.held))

-- There was no memory to look at what came. All that had come whole was answered.
abbrev pub IsStarved : Connection → Type 0
IsStarved old = IsReady old × IsUnfinished old.held

-- ---- items

-- An event does as it says, and if bytes were written, these are known. Or it can't happen in that slot, and changes
-- nothing. Or there was no memory for the bytes that came, and the connection ends. The next request of a connection is
-- answered, and its reply has to go out. Or there was no memory for the reply, and the connection ends; or there was none to
-- look at what came, and it ends. Or a connection ends well.
pub data Item : Type 0 where
  happens : Event → Item
  went : ℕ → List ℕ → Item
  stray : Event → Item
  missed : ℕ → List ℕ → Item
  answered : ℕ → Exchange → Item
  lost : ℕ → Exchange → Item
  starved : ℕ → Item
  finished : ℕ → Item

-- (an item of its own has the bytes that were written)
abbrev pub Happens : Slots → Event → Slots → Type 0
Happens old (came slot) new = (slice_get old slot ≡ Some None) × (new ≡ slice_set old slot (Some fresh))
Happens old (bytes slot text) new = Moves old slot new (Grows text)
Happens old (wrote slot count) new = ⊥
Happens old (ended slot) new = Moves old slot new IsEnded
Happens old (failed slot) new = Leaves old slot new (λ before. Unit {0})
Happens old (late slot) new = Leaves old slot new (λ before. Unit {0})

-- the slot has no connection of which this is true
abbrev pub NoneIs : Slots → ℕ → (Connection → Type 0) → Type 0
NoneIs old slot Is = (before : Connection) → slice_get old slot ≡ Some (Some before) → Is before → ⊥

abbrev pub IsStray : Slots → Event → Type 0
IsStray old (came slot) = slice_get old slot ≢ Some None
IsStray old (bytes slot text) = NoneIs old slot (λ before. before.phase ≡ Open)
IsStray old (wrote slot count) = NoneIs old slot (λ before. count ≤ length before.out)
IsStray old (ended slot) = NoneIs old slot (λ before. before.phase ≡ Open)
IsStray old (failed slot) = NoneIs old slot (λ before. Unit {0})
IsStray old (late slot) = NoneIs old slot (λ before. Unit {0})

abbrev pub Step : List CallerRow → Slots → Item → Slots → Type 0
Step rows old (happens event) new = Happens old event new
Step rows old (went slot text) new = Moves old slot new (Sends text)
Step rows old (stray event) new = IsStray old event × (new ≡ old)
Step rows old (missed slot text) new = Leaves old slot new (λ before. before.phase ≡ Open)
Step rows old (answered slot exchange) new = Moves old slot new (Answers rows exchange)
Step rows old (lost slot exchange) new = Leaves old slot new (Loses rows exchange)
Step rows old (starved slot) new = Leaves old slot new IsStarved
Step rows old (finished slot) new = Leaves old slot new IsDone

-- one item after the other
abbrev pub Steps : List CallerRow → Slots → List Item → Slots → Type 0
Steps rows old [] new = new ≡ old
Steps rows old (item ∷ items) new = (mid : Slots) × Step rows old item mid × Steps rows mid items new

-- ---- what items have

-- the slot of an item
abbrev pub slot_in : Item → ℕ
slot_in (happens event) = slot_of event
slot_in (went slot text) = slot
slot_in (stray event) = slot_of event
slot_in (missed slot text) = slot
slot_in (answered slot exchange) = slot
slot_in (lost slot exchange) = slot
slot_in (starved slot) = slot
slot_in (finished slot) = slot

-- the requests that were answered, each with its answer
abbrev pub exchange_in : Item → List Exchange
exchange_in (happens event) = []
exchange_in (went slot text) = []
exchange_in (stray event) = []
exchange_in (missed slot text) = []
exchange_in (answered slot exchange) = exchange ∷ []
exchange_in (lost slot exchange) = exchange ∷ []
exchange_in (starved slot) = []
exchange_in (finished slot) = []

-- those of all connections, in the order in which they were answered
abbrev pub exchanges_of : List Item → List Exchange
exchanges_of items = flat_map exchange_in items

-- the event of an item, if it is one
abbrev pub event_in : Item → List Event
event_in (happens event) = event ∷ []
event_in (went slot text) = wrote slot (length text) ∷ []
event_in (stray event) = event ∷ []
event_in (missed slot text) = bytes slot text ∷ []
event_in (answered slot exchange) = []
event_in (lost slot exchange) = []
event_in (starved slot) = []
event_in (finished slot) = []

abbrev pub events_of : List Item → List Event
events_of items = flat_map event_in items
