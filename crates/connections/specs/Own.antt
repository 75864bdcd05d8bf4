-- The part of one connection in all that happened: its own bytes, its own requests, and the replies to these.
use Rattle.std.specs.Prelude.{◌≡◌, ◌≢◌, ℕ, ◌==◌, Bool, true, false, List, [], ◌∷◌, ◌++◌, map, if◌then◌else◌}
use Rattle.std.specs.List.{AllByRecursion, flat_map, list_any}
use Rattle.bureau_store.specs.declared.caller.CallerRow.{CallerRow}
use Rattle.bureau_http.specs.Connection.{IsConnection, IsOwn, Stop}
use Rattle.bureau_http.specs.Exchange.{Exchange, IsAnswered, replies_text}
use Rattle.connections.specs.Items.{Event, Item, came, bytes, wrote, ended, failed, late, happens, went, stray, missed, answered, lost, starved, finished}

-- ---- of the connection in a slot

-- the bytes that came over it
abbrev pub got_by : ℕ → Event → List ℕ
got_by slot (came other) = []
got_by slot (bytes other text) = if other == slot then text else []
got_by slot (wrote other count) = []
got_by slot (ended other) = []
got_by slot (failed other) = []
got_by slot (late other) = []

abbrev pub got_in : ℕ → Item → List ℕ
got_in slot (happens event) = got_by slot event
got_in slot (went other text) = []
got_in slot (stray event) = []
got_in slot (missed other text) = []
got_in slot (answered other exchange) = []
got_in slot (lost other exchange) = []
got_in slot (starved other) = []
got_in slot (finished other) = []

abbrev pub got : ℕ → List Item → List ℕ
got slot items = flat_map (got_in slot) items

-- its requests with their answers, in the order in which they were answered
abbrev pub asked_in : ℕ → Item → List Exchange
asked_in slot (happens event) = []
asked_in slot (went other text) = []
asked_in slot (stray event) = []
asked_in slot (missed other text) = []
asked_in slot (answered other exchange) = if other == slot then exchange ∷ [] else []
asked_in slot (lost other exchange) = if other == slot then exchange ∷ [] else []
asked_in slot (starved other) = []
asked_in slot (finished other) = []

abbrev pub exchanges_at : ℕ → List Item → List Exchange
exchanges_at slot items = flat_map (asked_in slot) items

-- the bytes that were written to it
abbrev pub sent_in : ℕ → Item → List ℕ
sent_in slot (happens event) = []
sent_in slot (went other text) = if other == slot then text else []
sent_in slot (stray event) = []
sent_in slot (missed other text) = []
sent_in slot (answered other exchange) = []
sent_in slot (lost other exchange) = []
sent_in slot (starved other) = []
sent_in slot (finished other) = []

abbrev pub sent : ℕ → List Item → List ℕ
sent slot items = flat_map (sent_in slot) items

-- whether it ended well
abbrev pub is_finish : ℕ → Item → Bool
is_finish slot (happens event) = false
is_finish slot (went other text) = false
is_finish slot (stray event) = false
is_finish slot (missed other text) = false
is_finish slot (answered other exchange) = false
is_finish slot (lost other exchange) = false
is_finish slot (starved other) = false
is_finish slot (finished other) = other == slot

abbrev pub ended_well : ℕ → List Item → Bool
ended_well slot items = list_any (is_finish slot) items

-- no other connection comes to the slot
abbrev pub StaysBy : ℕ → Event → Type 0
StaysBy slot (came other) = other ≢ slot
StaysBy slot (bytes other text) = Unit {0}
StaysBy slot (wrote other count) = Unit {0}
StaysBy slot (ended other) = Unit {0}
StaysBy slot (failed other) = Unit {0}
StaysBy slot (late other) = Unit {0}

abbrev pub Stays : ℕ → Item → Type 0
Stays slot (happens event) = StaysBy slot event
Stays slot (went other text) = Unit {0}
Stays slot (stray event) = Unit {0}
Stays slot (missed other text) = Unit {0}
Stays slot (answered other exchange) = Unit {0}
Stays slot (lost other exchange) = Unit {0}
Stays slot (starved other) = Unit {0}
Stays slot (finished other) = Unit {0}

-- ---- what is promised of it

-- The bytes that came over a connection are requests and a stop. These requests were answered, in their order. The bytes
-- that were written to it are a front of the replies; and all of them if it ended well, with a stop of its own.
pub record IsServedAlone (rows : List CallerRow) (text : List ℕ) (exchanges : List Exchange) (written : List ℕ) (well : Bool) : Type 0 where
  pub stop : Stop
  pub connection : IsConnection rows text (map (λ exchange. exchange.asked) exchanges) stop
  pub answered : AllByRecursion IsAnswered exchanges
  pub front : (rest : List ℕ) × (replies_text exchanges ≡ written ++ rest)
  pub whole : well ≡ true → IsOwn stop × (written ≡ replies_text exchanges)

-- It is so of each connection, from its coming on, as long as no other comes to its slot.
abbrev pub EachIsServed : List CallerRow → List Item → Type 0
EachIsServed rows items =
    (slot : ℕ) (before during after : List Item) → items ≡ before ++ happens (came slot) ∷ (during ++ after) →
    AllByRecursion (Stays slot) during →
    IsServedAlone rows (got slot during) (exchanges_at slot during) (sent slot during) (ended_well slot during)
