-- What comes of calls: small worked cases, so that the definitions are seen to mean what they should.
use Rattle.std.proofs.Common.{◌≡◌, ℕ, true, false, List, [], ◌∷◌, refl}
use Rattle.std.specs.Prelude.{Some, None, codes, replicate}
use Rattle.std.specs.Fmt.{digits}
use Rattle.zone_lists.specs.declared.zones.ZoneState.TheVariants.{Applied}
use Rattle.catalogue.specs.Content.{nothing}
use Rattle.report_json.specs.Counts.{zone_counts_json_of}
use Rattle.report_json.specs.Json.{err_json_of, missing_json_of, published_json_of, zones_json_of}
use Rattle.questions.specs.declared.report.Report.TheVariants.{ErrSysmods, MissingFix}
use Rattle.questions.specs.declared.wanted.Form.TheVariants.{Text, Json}
use Rattle.questions.specs.declared.wanted.Wanted.TheVariants.{Rows, Plan}
use Rattle.bureau_store.specs.Effect.{zone_dropped}
use Rattle.bureau_store.specs.Tables.{ZoneTable, Zones}
use Rattle.bureau_store.specs.declared.caller.Caller.TheVariants.{Publisher, Client}
use Rattle.bureau.specs.Call.{Call, publish, drop_zone, list_zones, report_on, zone_counts, counts}
use Rattle.bureau.specs.Outcome.{Answer, Outcome, accepted, answered, as_json, has_room, in_turn, outcome, plain}
use Rattle.bureau.specs.Own.{Asked, Opening, own_answer}
use Rattle.bureau.specs.Texts.{counts_text}
use Rattle.bureau.specs.View.{View}

-- a zone with one SYSMOD
abbrev small_zone : ZoneTable
small_zone = record { rows = (record { sysmod = codes "HBB7790"; state = Applied }) ∷ []; patterns = [] }

-- the client ALPHA after its second change, with the zone TGT1, where nothing is published
abbrev alpha : View
alpha = record {
  caller = Client (codes "ALPHA  ");
  content = nothing;
  last = record { number = 2; reply = codes "ZONE TGT1 ROWS 1\n" };
  zones = (codes "TGT1   ", small_zone) ∷ [];
  received = [];
}

-- the publisher before its first change
abbrev publisher : View
publisher = record { caller = Publisher; content = nothing; last = record { number = 0; reply = [] }; zones = []; received = [] }

-- who may ask what
pub client_publishes : outcome alpha (publish (Some 3) (codes "++VER(Z038).")) ≡ answered (plain 403 (codes "NOT ALLOWED\n"))
client_publishes = refl

pub publisher_lists_zones : outcome publisher (list_zones Text) ≡ answered (plain 403 (codes "NOT ALLOWED\n"))
publisher_lists_zones = refl

pub publisher_lists_zones_as_json : outcome publisher (list_zones Json) ≡ answered (plain 403 (codes "NOT ALLOWED\n"))
publisher_lists_zones_as_json = refl

pub publisher_asks_for_a_plan : outcome publisher (report_on MissingFix (Plan Text) (codes "TGT1   ")) ≡ answered (plain 403 (codes "NOT ALLOWED\n"))
publisher_asks_for_a_plan = refl

pub publisher_counts_a_zone : outcome publisher (zone_counts (codes "TGT1   ")) ≡ answered (plain 403 (codes "NOT ALLOWED\n"))
publisher_counts_a_zone = refl

pub who_may_not_ask_needs_no_number : outcome alpha (publish None []) ≡ answered (plain 403 (codes "NOT ALLOWED\n"))
who_may_not_ask_needs_no_number = refl

-- numbers
pub no_number : outcome publisher (publish None []) ≡ answered (plain 400 (codes "BAD NUMBER\n"))
no_number = refl

pub number_zero : outcome alpha (drop_zone (Some 0) (codes "TGT1   ")) ≡ answered (plain 400 (codes "BAD NUMBER\n"))
number_zero = refl

pub number_too_great : outcome alpha (drop_zone (Some 9223372036854775808) (codes "TGT1   ")) ≡ answered (plain 400 (codes "BAD NUMBER\n"))
number_too_great = refl

-- the greatest number that a change may have
pub greatest_number : (change : Outcome) → in_turn (record { number = 9223372036854775806; reply = [] }) (Some 9223372036854775807) change ≡ change
greatest_number change = refl

-- the last number again, with whatever call, gets the kept reply
pub number_again : outcome alpha (drop_zone (Some 2) (codes "TGT9   ")) ≡ answered (plain 200 (codes "ZONE TGT1 ROWS 1\n"))
number_again = refl

-- a number before the last one, before the zone is looked for
pub number_before : outcome alpha (drop_zone (Some 1) (codes "TGT9   ")) ≡ answered (plain 409 (codes "STALE\n"))
number_before = refl

pub number_left_out : outcome alpha (drop_zone (Some 4) (codes "TGT1   ")) ≡ answered (plain 409 (codes "GAP LAST 2\n"))
unfolding digits
number_left_out = refl

-- zones
pub zone_not_there : outcome alpha (drop_zone (Some 3) (codes "TGT9   ")) ≡ answered (plain 404 (codes "NOT FOUND\n"))
zone_not_there = refl

pub zone_dropped_now : outcome alpha (drop_zone (Some 3) (codes "TGT1   ")) ≡ accepted (zone_dropped (codes "TGT1   ")) (codes "ZONE TGT1 DROPPED\n")
zone_dropped_now = refl

pub report_on_no_zone : outcome alpha (report_on ErrSysmods (Rows Text) (codes "TGT9   ")) ≡ answered (plain 404 (codes "NOT FOUND\n"))
report_on_no_zone = refl

pub report_as_json_on_no_zone : outcome alpha (report_on ErrSysmods (Rows Json) (codes "TGT9   ")) ≡ answered (plain 404 (codes "NOT FOUND\n"))
report_as_json_on_no_zone = refl

pub missing_fixes_as_json_on_no_zone : outcome alpha (report_on MissingFix (Rows Json) (codes "TGT9   ")) ≡ answered (plain 404 (codes "NOT FOUND\n"))
missing_fixes_as_json_on_no_zone = refl

pub plan_on_no_zone : outcome alpha (report_on ErrSysmods (Plan Json) (codes "TGT9   ")) ≡ answered (plain 404 (codes "NOT FOUND\n"))
plan_on_no_zone = refl

pub counts_of_no_zone : outcome alpha (zone_counts (codes "TGT9   ")) ≡ answered (plain 404 (codes "NOT FOUND\n"))
counts_of_no_zone = refl

pub zones_listed : outcome alpha (list_zones Text) ≡ answered (plain 200 (codes "ZONE     SYSMODS\nTGT1     1\nROWS 1\n"))
unfolding digits
zones_listed = refl

pub zones_listed_as_json : outcome alpha (list_zones Json) ≡ answered (as_json (zones_json_of ((codes "TGT1   ", 1) ∷ [])))
zones_listed_as_json = refl

-- reports where nothing is published
pub nothing_held_as_json : outcome alpha (report_on ErrSysmods (Rows Json) (codes "TGT1   ")) ≡ answered (as_json (err_json_of nothing (codes "TGT1   ") []))
nothing_held_as_json = refl

pub nothing_missing_as_json : outcome alpha (report_on MissingFix (Rows Json) (codes "TGT1   ")) ≡ answered (as_json (missing_json_of nothing (codes "TGT1   ") [] []))
nothing_missing_as_json = refl

pub nothing_counted : outcome alpha (zone_counts (codes "TGT1   ")) ≡ answered (as_json (zone_counts_json_of (codes "TGT1   ") [] [] []))
nothing_counted = refl

-- a client may have 64 zones; one of them may be put again
abbrev zones_of : ℕ → Zones
zones_of n = replicate n (codes "TGT1   ", small_zone)

pub room_for_the_64th : has_room (codes "TGT9   ") (zones_of 63) ≡ true
room_for_the_64th = refl

pub no_room_for_the_65th : has_room (codes "TGT9   ") (zones_of 64) ≡ false
no_room_for_the_65th = refl

pub room_for_one_that_is_there : has_room (codes "TGT1   ") (zones_of 64) ≡ true
room_for_one_that_is_there = refl

-- counts before anything is published
pub counts_of_nothing : counts_text Text nothing ≡ codes "PUBLISHED SYSMODS 0 HOLDS 0\n"
unfolding digits
counts_of_nothing = refl

pub counts_of_nothing_as_json : counts_text Json nothing ≡ published_json_of 0 0
counts_of_nothing_as_json = refl

pub both_may_count : outcome alpha (counts Text) ≡ outcome publisher (counts Text)
both_may_count = refl

pub both_may_count_as_json : outcome alpha (counts Json) ≡ outcome publisher (counts Json)
both_may_count_as_json = refl

-- ---- the own answer: no tables, only the calls that came, the latest first

-- ALPHA opens with the zone TGT1, its second change being its last
abbrev opening : Opening
opening = record {
  content = nothing;
  publisher = record { number = 0; reply = [] };
  own = record { number = 2; reply = codes "ZONE TGT1 ROWS 1\n" };
  zones = (codes "TGT1   ", small_zone) ∷ [];
  received = [];
}

abbrev by_alpha : Call → Asked
by_alpha call = record { caller = Client (codes "ALPHA  "); call = call }

abbrev own : List Asked → Call → Answer
own history call = own_answer opening history (Client (codes "ALPHA  ")) call

-- a change takes the next number, and what it did is there for the calls after it
pub zone_dropped_before : own (by_alpha (drop_zone (Some 3) (codes "TGT1   ")) ∷ []) (report_on ErrSysmods (Rows Text) (codes "TGT1   ")) ≡ plain 404 (codes "NOT FOUND\n")
zone_dropped_before = refl

-- its number again gets the reply that is kept, though the zone is there no more
pub drop_again : own (by_alpha (drop_zone (Some 3) (codes "TGT1   ")) ∷ []) (drop_zone (Some 3) (codes "TGT1   ")) ≡ plain 200 (codes "ZONE TGT1 DROPPED\n")
drop_again = refl

-- and a number before it none
pub before_the_drop : own (by_alpha (drop_zone (Some 3) (codes "TGT1   ")) ∷ []) (drop_zone (Some 2) (codes "TGT1   ")) ≡ plain 409 (codes "STALE\n")
before_the_drop = refl

-- a change that was refused took no number
pub refused_before : own (by_alpha (drop_zone (Some 3) (codes "TGT9   ")) ∷ []) (drop_zone (Some 3) (codes "TGT1   ")) ≡ plain 200 (codes "ZONE TGT1 DROPPED\n")
refused_before = refl
