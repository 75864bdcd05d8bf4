-- The answers to a caller by a bureau that received only that caller's calls and the publisher's. No tables change here: the
-- last accepted call that names an entry put it.
use Rattle.std.specs.Prelude.{◌+◌, ◌++◌, ℕ, List, [], ◌∷◌, Option, Some, None, filter, length, unwrap_or, if◌then◌else◌}
use Rattle.std.specs.BTreeSet.{insert_key}
use Rattle.std.specs.List.{filter_map}
use Rattle.std.specs.Map.{keys_of}
use Rattle.std.specs.Option.{option_map}
use Rattle.std.specs.Str.{bytes_eq}
use Rattle.zone_lists.specs.declared.zones.ZoneRow.{ZoneRow}
use Rattle.bureau_store.specs.Caller.{is_caller}
use Rattle.catalogue.specs.Content.{Content}
use Rattle.catalogue.specs.Publication.{after}
use Rattle.catalogue.specs.declared.change.Change.{Change}
use Rattle.bureau_store.specs.Effect.{Effect, publication, zone_put, zone_dropped, received_put, patterns_put}
use Rattle.bureau_store.specs.Tables.{LastChange, ZoneTable, Zones, name_order, patterns_of, zone_named}
use Rattle.bureau_store.specs.declared.caller.Caller.{Caller}
use Rattle.bureau_store.specs.declared.caller.Caller.TheVariants.{Publisher, Client}
use Rattle.bureau.specs.Call.{Call}
use Rattle.bureau.specs.Outcome.{Answer, Outcome, answered, accepted, answer_of, outcome}
use Rattle.bureau.specs.View.{View}

-- what the publisher and one caller find when the bureau opens: nothing of anybody else
pub record Opening : Type 0 where
  pub content : Content
  pub publisher : LastChange
  pub own : LastChange
  pub zones : Zones
  pub received : List (List ℕ)

-- a call and who asked it
pub record Asked : Type 0 where
  pub caller : Caller
  pub call : Call

-- an accepted change: who made it, its effect, and the reply that is kept for it
pub record Accepted : Type 0 where
  pub caller : Caller
  pub effect : Effect
  pub reply : List ℕ

-- ---- what some accepted changes left, the latest first

-- the caller's changes
abbrev pub changes_by : Caller → List Accepted → List Accepted
changes_by caller changes = filter (λ change. is_caller change.caller caller) changes

abbrev pub opening_last : Opening → Caller → LastChange
opening_last opening Publisher = opening.publisher
opening_last opening (Client name) = opening.own

-- each accepted change took one number, and the reply of the last one is kept
abbrev pub kept_reply : List ℕ → List Accepted → List ℕ
kept_reply first [] = first
kept_reply first (change ∷ earlier) = change.reply

abbrev pub last_left : Opening → Caller → List Accepted → LastChange
last_left opening caller changes = record {
  number = (opening_last opening caller).number + length (changes_by caller changes);
  reply = kept_reply (opening_last opening caller).reply (changes_by caller changes);
}

-- all that was published, the first publication first
abbrev pub published_in : Effect → List Change
published_in (publication changes) = changes
published_in _ = []

abbrev pub publications : List Accepted → List Change
publications [] = []
publications (change ∷ earlier) = publications earlier ++ published_in change.effect

-- the word of a change on a zone's rows: none; or that the zone has these; or, dropped, that it has none
abbrev pub says_rows : List ℕ → Effect → Option (Option (List ZoneRow))
says_rows zone (zone_put name rows) = if bytes_eq zone name then Some (Some rows) else None
says_rows zone (zone_dropped name) = if bytes_eq zone name then Some None else None
says_rows zone _ = None

-- the same on its patterns, of which a drop leaves none
abbrev pub says_patterns : List ℕ → Effect → Option (List (List ℕ))
says_patterns zone (patterns_put name patterns) = if bytes_eq zone name then Some patterns else None
says_patterns zone (zone_dropped name) = if bytes_eq zone name then Some [] else None
says_patterns zone _ = None

abbrev pub says_received : Effect → Option (List (List ℕ))
says_received (received_put ids) = Some ids
says_received _ = None

-- the word of the last change that has one, or else what was there at the opening
abbrev pub last_said : {A : Type 0} → (Effect → Option A) → A → List Accepted → A
last_said says first [] = first
last_said says first (change ∷ earlier) = unwrap_or (says change.effect) (last_said says first earlier)

abbrev pub received_left : Opening → List Accepted → List (List ℕ)
received_left opening changes = last_said says_received opening.received changes

abbrev pub content_left : Opening → List Accepted → Content
content_left opening changes = after opening.content (publications changes)

abbrev pub rows_left : Opening → List Accepted → List ℕ → Option (List ZoneRow)
rows_left opening changes name =
    last_said (says_rows name) (option_map (λ table. table.rows) (zone_named name opening.zones)) changes

abbrev pub patterns_left : Opening → List Accepted → List ℕ → List (List ℕ)
patterns_left opening changes name =
    last_said (says_patterns name) (patterns_of (zone_named name opening.zones)) changes

-- the zone of a name, if it has rows
abbrev pub zone_left : Opening → List Accepted → List ℕ → Option ZoneTable
zone_left opening changes name =
    option_map (λ rows. record { rows = rows; patterns = patterns_left opening changes name }) (rows_left opening changes name)

-- the names that an effect has of zones
abbrev pub zone_of : Effect → Option (List ℕ)
zone_of (zone_put name rows) = Some name
zone_of (zone_dropped name) = Some name
zone_of (patterns_put name patterns) = Some name
zone_of _ = None

abbrev pub with_name : Option (List ℕ) → List (List ℕ) → List (List ℕ)
with_name None names = names
with_name (Some name) names = insert_key name_order names name

-- every name that the opening's zones or a change has, in order
abbrev pub names_known : Opening → List Accepted → List (List ℕ)
names_known opening [] = keys_of opening.zones
names_known opening (change ∷ earlier) = with_name (zone_of change.effect) (names_known opening earlier)

-- those of some names that have something, with it
abbrev pub found : {A : Type 0} → (List ℕ → Option A) → List (List ℕ) → List (List ℕ × A)
found at names = filter_map (λ name. option_map (λ a. (name, a)) (at name)) names

abbrev pub zones_left : Opening → List Accepted → Zones
zones_left opening changes = found (zone_left opening changes) (names_known opening changes)

-- ---- the own answer

-- the tables as a caller sees them after the accepted changes
abbrev pub own_view : Opening → List Accepted → Caller → View
own_view opening changes Publisher = record {
  caller = Publisher;
  content = content_left opening changes;
  last = last_left opening Publisher changes;
  zones = [];
  received = [];
}
own_view opening changes (Client name) = record {
  caller = Client name;
  content = content_left opening changes;
  last = last_left opening (Client name) changes;
  zones = zones_left opening changes;
  received = received_left opening changes;
}

-- the change that came of a call, if one did
abbrev pub change_of : Caller → Outcome → List Accepted
change_of caller (answered answer) = []
change_of caller (accepted effect text) = record { caller = caller; effect = effect; reply = text } ∷ []

-- the calls of a history, the latest first, that are accepted if only these calls came
abbrev pub accepted_in : Opening → List Asked → List Accepted
accepted_in opening [] = []
accepted_in opening (asked ∷ earlier) =
    change_of asked.caller (outcome (own_view opening (accepted_in opening earlier) asked.caller) asked.call)
    ++ accepted_in opening earlier

-- the answer to the caller after this history
abbrev pub own_answer : Opening → List Asked → Caller → Call → Answer
own_answer opening history caller call = answer_of (outcome (own_view opening (accepted_in opening history) caller) call)
