-- What comes of a call is never 503, and it is a publication for the publisher alone.
use Rattle.std.proofs.Common.{◌≡◌, ℕ, ◌+◌, ◌==◌, ◌&&◌, Bool, true, false, List, refl, sym, ap, subst}
use Rattle.std.specs.Prelude.{Option, Some, None, Result, Ok, Err, codes, is_some, nat_le, nat_lt, if◌then◌else◌}
use Rattle.questions.specs.Wanted.{form_of}
use Rattle.questions.specs.declared.wanted.Form.{Form}
use Rattle.questions.specs.declared.wanted.Form.TheVariants.{Text, Json}
use Rattle.bureau_store.specs.Effect.{Effect, publication, zone_put, zone_dropped, received_put, patterns_put}
use Rattle.bureau_store.specs.Tables.{LastChange, ZoneTable, Zones, zone_named}
use Rattle.bureau_store.specs.declared.caller.Caller.{Caller}
use Rattle.bureau_store.specs.declared.caller.Caller.TheVariants.{Publisher, Client}
use Rattle.bureau.specs.Call.{Call, publish, put_zone, drop_zone, put_received, put_patterns, list_zones, report_on, zone_counts, chain, counts}
use Rattle.bureau_store.specs.Store.{greatest_number}
use Rattle.bureau.specs.Outcome.{Outcome, answered, accepted, bad_number, by_number, forbidden, gap, has_room, in_form, in_turn, may_ask, of_zone, outcome, outcome_allowed, put_of_zone, refused, said, stale, told}
use Rattle.bureau.specs.View.{View}
use Rattle.bureau.specs.Bodies.{changes_in, ids_in, patterns_in, rows_in}
use Rattle.bureau.specs.Texts.{chain_text, counts_text, patterns_text, publication_text, received_text, report_text, zone_counts_text, zone_dropped_text, zone_put_text, zones_text}

-- who may make a change, and that patterns are those of a zone that is there
abbrev pub IsPossible : Zones → Caller → Effect → Type 0
IsPossible zones Publisher (publication changes) = Unit {0}
IsPossible zones Publisher _ = ⊥
IsPossible zones (Client name) (publication changes) = ⊥
IsPossible zones (Client name) (patterns_put zone patterns) = is_some (zone_named zone zones) ≡ true
IsPossible zones (Client name) _ = Unit {0}

abbrev pub IsProper : Zones → Caller → Outcome → Type 0
IsProper zones caller (answered answer) = (answer.status == 503) ≡ false
IsProper zones caller (accepted effect text) = IsPossible zones caller effect

module _ (zones : Zones) (caller : Caller) where
  either : (b : Bool) (x y : Outcome) → IsProper zones caller x → IsProper zones caller y → IsProper zones caller (if b then x else y)
  either true x y h g = h
  either false x y h g = g

  numbered : (number : ℕ) (last : LastChange) (change : Outcome) → IsProper zones caller change → IsProper zones caller (by_number number last change)
  numbered number last change h =
      either (number == last.number) (told last.reply) _ refl
      (either (number == last.number + 1) change _ h
      (either (nat_lt number last.number) (answered stale) (answered (gap last.number)) refl refl))

  turned : (last : LastChange) (number : Option ℕ) (change : Outcome) → IsProper zones caller change → IsProper zones caller (in_turn last number change)
  turned last None change h = refl
  turned last (Some number) change h = either (nat_lt 0 number && nat_le number greatest_number) (by_number number last change) (answered bad_number) (numbered number last change h) refl

  reads : {A : Type 0} (what : Result A (List ℕ)) (answer : A → Outcome) → ((a : A) → IsProper zones caller (answer a)) → IsProper zones caller (said what answer)
  reads (Err line) answer h = refl
  reads (Ok a) answer h = h a

  finds : (found : Option ZoneTable) (answer : ZoneTable → Outcome) → ((table : ZoneTable) → found ≡ Some table → IsProper zones caller (answer table)) → IsProper zones caller (of_zone found answer)
  finds None answer h = refl
  finds (Some table) answer h = h table refl

  in_any_form : (form : Form) (text : List ℕ) → IsProper zones caller (answered (in_form form text))
  in_any_form Text text = refl
  in_any_form Json text = refl

  tells : (form : Form) (found : Option ZoneTable) (text : ZoneTable → List ℕ) → IsProper zones caller (of_zone found (λ table. answered (in_form form (text table))))
  tells form found text = finds found (λ table. answered (in_form form (text table))) (λ table there. in_any_form form (text table))

asked : (view : View) (caller : Caller) (call : Call) → IsProper view.zones caller (if may_ask caller call then outcome_allowed view call else answered forbidden)
asked view Publisher (publish number body) =
    turned view.zones Publisher view.last number (said (changes_in body) (λ changes. accepted (publication changes) (publication_text changes)))
    (reads view.zones Publisher (changes_in body) (λ changes. accepted (publication changes) (publication_text changes)) (λ changes. tt))
asked view Publisher (put_zone number zone body) = refl
asked view Publisher (drop_zone number zone) = refl
asked view Publisher (put_received number body) = refl
asked view Publisher (put_patterns number zone body) = refl
asked view Publisher (list_zones form) = refl
asked view Publisher (report_on report wanted zone) = refl
asked view Publisher (zone_counts zone) = refl
asked view Publisher (chain zone sysmod) = refl
asked view Publisher (counts form) = in_any_form view.zones Publisher form (counts_text form view.content)
asked view (Client name) (publish number body) = refl
asked view (Client name) (put_zone number zone body) =
    turned view.zones (Client name) view.last number (put_of_zone view.zones zone body)
    (reads view.zones (Client name) (rows_in body) (λ rows. if has_room zone view.zones then accepted (zone_put zone rows) (zone_put_text zone rows) else refused (codes "FAULT 61\n"))
    (λ rows. either view.zones (Client name) (has_room zone view.zones) (accepted (zone_put zone rows) (zone_put_text zone rows)) (refused (codes "FAULT 61\n")) tt refl))
asked view (Client name) (drop_zone number zone) =
    turned view.zones (Client name) view.last number (of_zone (zone_named zone view.zones) (λ table. accepted (zone_dropped zone) (zone_dropped_text zone)))
    (finds view.zones (Client name) (zone_named zone view.zones) (λ table. accepted (zone_dropped zone) (zone_dropped_text zone)) (λ table found. tt))
asked view (Client name) (put_received number body) =
    turned view.zones (Client name) view.last number (said (ids_in body) (λ ids. accepted (received_put ids) (received_text ids)))
    (reads view.zones (Client name) (ids_in body) (λ ids. accepted (received_put ids) (received_text ids)) (λ ids. tt))
asked view (Client name) (put_patterns number zone body) =
    turned view.zones (Client name) view.last number
    (of_zone (zone_named zone view.zones) (λ table. said (patterns_in body) (λ patterns. accepted (patterns_put zone patterns) (patterns_text zone patterns))))
    (finds view.zones (Client name) (zone_named zone view.zones)
    (λ table. said (patterns_in body) (λ patterns. accepted (patterns_put zone patterns) (patterns_text zone patterns)))
    (λ table found. reads view.zones (Client name) (patterns_in body) (λ patterns. accepted (patterns_put zone patterns) (patterns_text zone patterns))
    (λ patterns. ap (λ (o : Option ZoneTable). is_some o) found)))
asked view (Client name) (list_zones form) = in_any_form view.zones (Client name) form (zones_text form view.zones)
asked view (Client name) (report_on report wanted zone) =
    tells view.zones (Client name) (form_of wanted) (zone_named zone view.zones) (λ table. report_text report wanted view.content zone table view.received)
asked view (Client name) (zone_counts zone) =
    tells view.zones (Client name) Json (zone_named zone view.zones) (λ table. zone_counts_text view.content zone table)
asked view (Client name) (chain zone sysmod) =
    tells view.zones (Client name) Json (zone_named zone view.zones) (λ table. chain_text view.content zone table sysmod)
asked view (Client name) (counts form) = in_any_form view.zones (Client name) form (counts_text form view.content)

pub proper : (view : View) (call : Call) (caller : Caller) → view.caller ≡ caller → IsProper view.zones caller (outcome view call)
proper view call caller is =
    subst (λ c. IsProper view.zones caller (if may_ask c call then outcome_allowed view call else answered forbidden)) (sym is) (asked view caller call)
