-- The outcome of a call, as far as one caller's view decides it.
use Rattle.std.specs.Prelude.{ℕ, ◌+◌, ◌==◌, ◌&&◌, ◌++◌, Bool, true, false, List, [], Option, Some, None, Result, Ok, Err, codes, decimal, is_some, length, nat_le, nat_lt, if◌then◌else◌}
use Rattle.questions.specs.Wanted.{form_of}
use Rattle.questions.specs.declared.wanted.Form.{Form}
use Rattle.questions.specs.declared.wanted.Form.TheVariants.{Text, Json}
use Rattle.bureau_store.specs.Effect.{Effect, publication, zone_put, zone_dropped, received_put, patterns_put}
use Rattle.bureau_store.specs.Store.{greatest_number}
use Rattle.bureau_store.specs.Tables.{LastChange, ZoneTable, Zones, zone_named}
use Rattle.bureau_store.specs.declared.caller.Caller.{Caller}
use Rattle.bureau_store.specs.declared.caller.Caller.TheVariants.{Publisher, Client}
use Rattle.bureau.specs.Call.{Call, publish, put_zone, drop_zone, put_received, put_patterns, list_zones, report_on, zone_counts, chain, counts}
use Rattle.bureau.specs.View.{View}
use Rattle.bureau.specs.Bodies.{changes_in, rows_in, ids_in, patterns_in}
use Rattle.bureau.specs.Texts.{publication_text, zone_put_text, zone_dropped_text, received_text, patterns_text, zones_text, counts_text, report_text, zone_counts_text, chain_text}

-- an answer: its status, whether its body is JSON, and the body
pub record Answer : Type 0 where
  pub status : ℕ
  pub json : Bool
  pub body : List ℕ

abbrev pub plain : ℕ → List ℕ → Answer
plain status body = record { status = status; json = false; body = body }

abbrev pub as_json : List ℕ → Answer
as_json body = record { status = 200; json = true; body = body }

-- a text in a form
abbrev pub in_form : Form → List ℕ → Answer
in_form Text body = plain 200 body
in_form Json body = as_json body

-- the answers that have no other text
abbrev pub bad_number : Answer
bad_number = plain 400 (codes "BAD NUMBER\n")

abbrev pub forbidden : Answer
forbidden = plain 403 (codes "NOT ALLOWED\n")

abbrev pub not_found : Answer
not_found = plain 404 (codes "NOT FOUND\n")

abbrev pub stale : Answer
stale = plain 409 (codes "STALE\n")

-- there is no room for this call now
abbrev pub no_room : Answer
no_room = plain 503 []

-- a number that leaves some out, with the last one
abbrev pub gap : ℕ → Answer
gap last = plain 409 (codes "GAP LAST " ++ decimal last ++ codes "\n")

-- Either an answer alone, or a change with the text that tells it.
pub data Outcome : Type 0 where
  answered : Answer → Outcome
  accepted : Effect → List ℕ → Outcome

abbrev pub told : List ℕ → Outcome
told text = answered (plain 200 text)

abbrev pub refused : List ℕ → Outcome
refused line = answered (plain 422 line)

-- the most zones of a client
abbrev pub most_zones : ℕ
most_zones = 64

-- which caller may ask what
abbrev pub may_ask : Caller → Call → Bool
may_ask Publisher (publish number body) = true
may_ask Publisher (counts form) = true
may_ask Publisher _ = false
may_ask (Client name) (publish number body) = false
may_ask (Client name) _ = true

-- A change comes in its turn: the caller's next number is taken, the last one gets the reply that is kept,
-- and any other none.
abbrev pub by_number : ℕ → LastChange → Outcome → Outcome
by_number number last change =
    if number == last.number then told last.reply
    else if number == last.number + 1 then change
    else if nat_lt number last.number then answered stale
    else answered (gap last.number)

abbrev pub in_turn : LastChange → Option ℕ → Outcome → Outcome
in_turn last None change = answered bad_number
in_turn last (Some number) change =
    if nat_lt 0 number && nat_le number greatest_number then by_number number last change else answered bad_number

-- a call about a zone that isn't there finds nothing
abbrev pub of_zone : Option ZoneTable → (ZoneTable → Outcome) → Outcome
of_zone None answer = answered not_found
of_zone (Some table) answer = answer table

-- a body has a meaning, or is refused for its first fault
abbrev pub said : {A : Type 0} → Result A (List ℕ) → (A → Outcome) → Outcome
said (Err line) answer = refused line
said (Ok what) answer = answer what

-- a client's 65th zone is refused
abbrev pub has_room : List ℕ → Zones → Bool
has_room name zones = if is_some (zone_named name zones) then true else nat_lt (length zones) most_zones

abbrev pub put_of_zone : Zones → List ℕ → List ℕ → Outcome
put_of_zone zones name body = said (rows_in body) (λ rows.
    if has_room name zones then accepted (zone_put name rows) (zone_put_text name rows) else refused (codes "FAULT 61\n"))

-- The outcome of a call that the caller may ask. First a change's number counts, then whether the zone is there, then the
-- body.
abbrev pub outcome_allowed : View → Call → Outcome
outcome_allowed view (publish number body) = in_turn view.last number
    (said (changes_in body) (λ changes. accepted (publication changes) (publication_text changes)))
outcome_allowed view (put_zone number zone body) = in_turn view.last number (put_of_zone view.zones zone body)
outcome_allowed view (drop_zone number zone) = in_turn view.last number
    (of_zone (zone_named zone view.zones) (λ table. accepted (zone_dropped zone) (zone_dropped_text zone)))
outcome_allowed view (put_received number body) = in_turn view.last number
    (said (ids_in body) (λ ids. accepted (received_put ids) (received_text ids)))
outcome_allowed view (put_patterns number zone body) = in_turn view.last number
    (of_zone (zone_named zone view.zones) (λ table.
    said (patterns_in body) (λ patterns. accepted (patterns_put zone patterns) (patterns_text zone patterns))))
outcome_allowed view (list_zones form) = answered (in_form form (zones_text form view.zones))
outcome_allowed view (report_on report wanted zone) =
    of_zone (zone_named zone view.zones) (λ table.
    answered (in_form (form_of wanted) (report_text report wanted view.content zone table view.received)))
outcome_allowed view (zone_counts zone) =
    of_zone (zone_named zone view.zones) (λ table.
    answered (as_json (zone_counts_text view.content zone table)))
outcome_allowed view (chain zone sysmod) =
    of_zone (zone_named zone view.zones) (λ table.
    answered (as_json (chain_text view.content zone table sysmod)))
outcome_allowed view (counts form) = answered (in_form form (counts_text form view.content))

abbrev pub outcome : View → Call → Outcome
outcome view call = if may_ask view.caller call then outcome_allowed view call else answered forbidden

-- the answer to the caller
abbrev pub answer_of : Outcome → Answer
answer_of (answered answer) = answer
answer_of (accepted effect text) = plain 200 text
