-- What some accepted changes left, and what one more leaves.
use Rattle.std.proofs.Common.{◌≡◌, ℕ, ◌+◌, Bool, true, false, cond, List, [], ◌∷◌, ◌++◌, length, refl, sym, ◌∙◌, ap, arith, append-nil}
use Rattle.std.specs.Prelude.{Option, Some, None, is_some, unwrap_or, if◌then◌else◌}
use Rattle.std.specs.BTreeSet.{insert_key}
use Rattle.std.specs.List.{list_any}
use Rattle.std.specs.List.Sorted.{IsStrictlySortedBy}
use Rattle.std.specs.Option.{option_map}
use Rattle.std.specs.Str.{bytes_eq}
use Rattle.std.proofs.lemmas.Bool.{or_parts}
use Rattle.zone_lists.specs.declared.zones.ZoneRow.{ZoneRow}
use Rattle.supersede.proofs.GivingFacts.{same_self}
use Rattle.bureau_store.specs.Caller.{is_caller}
use Rattle.catalogue.specs.Publication.{after}
use Rattle.catalogue.proofs.PublicationFacts.{after_joined}
use Rattle.bureau_store.specs.Effect.{Effect, publication, zone_put, zone_dropped, received_put, patterns_put, content_after, received_after, zones_after}
use Rattle.bureau_store.specs.Tables.{ZoneTable, Zones, name_order, patterns_of, rows_of, zone_named}
use Rattle.bureau_store.specs.declared.caller.Caller.{Caller}
use Rattle.bureau.specs.Own.{Accepted, Opening, changes_by, content_left, kept_reply, last_left, names_known, opening_last, patterns_left, publications, published_in, received_left, rows_left, with_name, zone_left, zone_of, zones_left}
use Rattle.bureau.proofs.FoundFacts.{found_dropped, found_put, lookup_found}
use Rattle.bureau.proofs.NamesFacts.{any_insert, apart_turned, same_name, sorted_insert}

-- ---- numbers and kept replies

pub last_more : (opening : Opening) (caller : Caller) (change : Accepted) (changes : List Accepted) (b : Bool) → is_caller change.caller caller ≡ b
    → last_left opening caller (change ∷ changes) ≡ cond b (record { number = (last_left opening caller changes).number + 1; reply = change.reply }) (last_left opening caller changes)
last_more opening caller change changes b is =
    ap (λ kept. record { number = (opening_last opening caller).number + length kept; reply = kept_reply (opening_last opening caller).reply kept })
    (ap (λ t. cond t (change ∷ changes_by caller changes) (changes_by caller changes)) is)
    ∙ by b
  where
    by : (b : Bool) → record { number = (opening_last opening caller).number + length (cond b (change ∷ changes_by caller changes) (changes_by caller changes)); reply = kept_reply (opening_last opening caller).reply (cond b (change ∷ changes_by caller changes) (changes_by caller changes)) }
        ≡ cond b (record { number = (last_left opening caller changes).number + 1; reply = change.reply }) (last_left opening caller changes)
    by true = ap (λ n. record { number = n; reply = change.reply }) (omega arith)
    by false = refl

-- ---- content

pub content_more : (opening : Opening) (change : Accepted) (changes : List Accepted) → content_left opening (change ∷ changes) ≡ content_after change.effect (content_left opening changes)
content_more opening change changes = by change.effect
  where
    none : after opening.content (publications changes ++ []) ≡ after opening.content (publications changes)
    none = ap (λ cs. after opening.content cs) (append-nil (publications changes))

    by : (effect : Effect) → after opening.content (publications changes ++ published_in effect) ≡ content_after effect (after opening.content (publications changes))
    by (publication more) = sym (after_joined opening.content (publications changes) more)
    by (zone_put name rows) = none
    by (zone_dropped name) = none
    by (received_put ids) = none
    by (patterns_put name patterns) = none

-- ---- received

pub received_more : (opening : Opening) (change : Accepted) (changes : List Accepted) → received_left opening (change ∷ changes) ≡ received_after change.effect (received_left opening changes)
received_more opening change changes = by change.effect
  where
    by : (effect : Effect) → received_left opening (record { caller = change.caller; effect = effect; reply = change.reply } ∷ changes) ≡ received_after effect (received_left opening changes)
    by (publication more) = refl
    by (zone_put name rows) = refl
    by (zone_dropped name) = refl
    by (received_put ids) = refl
    by (patterns_put name patterns) = refl

-- ---- zones

-- Names ascend; a name that isn't known has no rows; and what has no rows has no patterns.
pub record AreKept (opening : Opening) (changes : List Accepted) : Type 0 where
  pub sorted : IsStrictlySortedBy name_order (names_known opening changes)
  pub unknown : (name : List ℕ) → list_any (bytes_eq name) (names_known opening changes) ≡ false → rows_left opening changes name ≡ None
  pub bare : (name : List ℕ) → rows_left opening changes name ≡ None → patterns_left opening changes name ≡ []

-- the zone that is found under a name is the one that is left there
pub zone_is_left : (opening : Opening) (changes : List Accepted) (name : List ℕ) → AreKept opening changes → zone_named name (zones_left opening changes) ≡ zone_left opening changes name
zone_is_left opening changes name kept =
    lookup_found (zone_left opening changes) name (names_known opening changes)
    ∙ by (list_any (bytes_eq name) (names_known opening changes)) refl
  where
    by : (b : Bool) → list_any (bytes_eq name) (names_known opening changes) ≡ b → cond b (zone_left opening changes name) None ≡ zone_left opening changes name
    by true is = refl
    by false is = sym (ap (λ (o : Option (List ZoneRow)). option_map (λ rows. record { rows = rows; patterns = patterns_left opening changes name }) o) (kept.unknown name is))

patterns_found : (opening : Opening) (changes : List Accepted) (name : List ℕ) → AreKept opening changes → patterns_of (zone_named name (zones_left opening changes)) ≡ patterns_left opening changes name
patterns_found opening changes name kept = ap patterns_of (zone_is_left opening changes name kept) ∙ by (rows_left opening changes name) refl
  where
    by : (o : Option (List ZoneRow)) → rows_left opening changes name ≡ o → patterns_of (option_map (λ rows. record { rows = rows; patterns = patterns_left opening changes name }) o) ≡ patterns_left opening changes name
    by None is = sym (kept.bare name is)
    by (Some rows) is = refl

-- the rows of a zone that is there
rows_found : (opening : Opening) (changes : List Accepted) (name : List ℕ) → AreKept opening changes → is_some (zone_named name (zones_left opening changes)) ≡ true
    → rows_left opening changes name ≡ Some (rows_of (zone_named name (zones_left opening changes)))
rows_found opening changes name kept there = by (rows_left opening changes name) refl
  where
    by : (o : Option (List ZoneRow)) → rows_left opening changes name ≡ o → o ≡ Some (rows_of (zone_named name (zones_left opening changes)))
    by None is = cc (there, ap (λ (o : Option ZoneTable). is_some o) (zone_is_left opening changes name kept ∙ ap (λ (o : Option (List ZoneRow)). option_map (λ rows. record { rows = rows; patterns = patterns_left opening changes name }) o) is))
    by (Some rows) is = sym (ap (λ o. Some (rows_of o)) (zone_is_left opening changes name kept ∙ ap (λ (o : Option (List ZoneRow)). option_map (λ rows. record { rows = rows; patterns = patterns_left opening changes name }) o) is))

-- the change with this effect
abbrev by_effect : Accepted → Effect → Accepted
by_effect change effect = record { caller = change.caller; effect = effect; reply = change.reply }

-- a change says nothing of names apart from its own
apart_rows : (opening : Opening) (changes : List Accepted) (q name : List ℕ) (rows : Option (List ZoneRow)) → bytes_eq name q ≡ false
    → unwrap_or (if bytes_eq q name then Some rows else None) (rows_left opening changes q) ≡ rows_left opening changes q
apart_rows opening changes q name rows apart = ap (λ (b : Bool). unwrap_or (if b then Some rows else None) (rows_left opening changes q)) (apart_turned name q apart)

apart_patterns : (opening : Opening) (changes : List Accepted) (q name : List ℕ) (patterns : List (List ℕ)) → bytes_eq name q ≡ false
    → unwrap_or (if bytes_eq q name then Some patterns else None) (patterns_left opening changes q) ≡ patterns_left opening changes q
apart_patterns opening changes q name patterns apart = ap (λ (b : Bool). unwrap_or (if b then Some patterns else None) (patterns_left opening changes q)) (apart_turned name q apart)

own_rows : (opening : Opening) (changes : List Accepted) (name : List ℕ) (rows : Option (List ZoneRow))
    → unwrap_or (if bytes_eq name name then Some rows else None) (rows_left opening changes name) ≡ rows
own_rows opening changes name rows = ap (λ (b : Bool). unwrap_or (if b then Some rows else None) (rows_left opening changes name)) (same_self name)

own_patterns : (opening : Opening) (changes : List Accepted) (name : List ℕ) (patterns : List (List ℕ))
    → unwrap_or (if bytes_eq name name then Some patterns else None) (patterns_left opening changes name) ≡ patterns
own_patterns opening changes name patterns = ap (λ (b : Bool). unwrap_or (if b then Some patterns else None) (patterns_left opening changes name)) (same_self name)

-- that patterns are put to a zone that is there
abbrev pub IsOfZone : Zones → Effect → Type 0
IsOfZone zones (patterns_put zone patterns) = is_some (zone_named zone zones) ≡ true
IsOfZone zones _ = Unit {0}

pub zones_more : (opening : Opening) (change : Accepted) (changes : List Accepted) → AreKept opening changes → IsOfZone (zones_left opening changes) change.effect
    → zones_left opening (change ∷ changes) ≡ zones_after change.effect (zones_left opening changes)
zones_more opening change changes kept = by change.effect
  where
    by : (effect : Effect) → IsOfZone (zones_left opening changes) effect → zones_left opening (by_effect change effect ∷ changes) ≡ zones_after effect (zones_left opening changes)
    by (publication more) there = refl
    by (zone_put name rows) there =
        sym (found_put (zone_left opening changes) (zone_left opening (by_effect change (zone_put name rows) ∷ changes)) name
        (record { rows = rows; patterns = patterns_of (zone_named name (zones_left opening changes)) }) (names_known opening changes) kept.sorted
        (ap (λ (o : Option (List ZoneRow)). option_map (λ rows. record { rows = rows; patterns = patterns_left opening changes name }) o) (own_rows opening changes name (Some rows))
        ∙ ap (λ patterns. Some (record { rows = rows; patterns = patterns })) (sym (patterns_found opening changes name kept)))
        (λ q apart. ap (λ (o : Option (List ZoneRow)). option_map (λ rows. record { rows = rows; patterns = patterns_left opening changes q }) o) (apart_rows opening changes q name (Some rows) apart)))
    by (zone_dropped name) there =
        sym (found_dropped (zone_left opening changes) (zone_left opening (by_effect change (zone_dropped name) ∷ changes)) name (names_known opening changes) kept.sorted
        (ap (λ (o : Option (List ZoneRow)). option_map (λ rows. record { rows = rows; patterns = patterns_left opening (by_effect change (zone_dropped name) ∷ changes) name }) o) (own_rows opening changes name None))
        (λ q apart.
        ap (λ (o : Option (List ZoneRow)). option_map (λ rows. record { rows = rows; patterns = patterns_left opening (by_effect change (zone_dropped name) ∷ changes) q }) o) (apart_rows opening changes q name None apart)
        ∙ ap (λ patterns. option_map (λ rows. record { rows = rows; patterns = patterns }) (rows_left opening changes q)) (apart_patterns opening changes q name [] apart)))
    by (received_put ids) there = refl
    by (patterns_put name patterns) there =
        sym (found_put (zone_left opening changes) (zone_left opening (by_effect change (patterns_put name patterns) ∷ changes)) name
        (record { rows = rows_of (zone_named name (zones_left opening changes)); patterns = patterns }) (names_known opening changes) kept.sorted
        (ap (λ (o : Option (List ZoneRow)). option_map (λ rows. record { rows = rows; patterns = patterns_left opening (by_effect change (patterns_put name patterns) ∷ changes) name }) o) (rows_found opening changes name kept there)
        ∙ ap (λ patterns. Some (record { rows = rows_of (zone_named name (zones_left opening changes)); patterns = patterns })) (own_patterns opening changes name patterns))
        (λ q apart. ap (λ patterns. option_map (λ rows. record { rows = rows; patterns = patterns }) (rows_left opening changes q)) (apart_patterns opening changes q name patterns apart)))

pub kept_more : (opening : Opening) (change : Accepted) (changes : List Accepted) → AreKept opening changes → IsOfZone (zones_left opening changes) change.effect
    → AreKept opening (change ∷ changes)
kept_more opening change changes kept there = record {
  sorted = sorted change.effect;
  unknown = λ name. unknown name change.effect;
  bare = λ name. bare name change.effect there;
}
  where
    sorted : (effect : Effect) → IsStrictlySortedBy name_order (with_name (zone_of effect) (names_known opening changes))
    sorted (publication more) = kept.sorted
    sorted (zone_put name rows) = sorted_insert (names_known opening changes) name kept.sorted
    sorted (zone_dropped name) = sorted_insert (names_known opening changes) name kept.sorted
    sorted (received_put ids) = kept.sorted
    sorted (patterns_put name patterns) = sorted_insert (names_known opening changes) name kept.sorted

    apart : (name other : List ℕ) → list_any (bytes_eq name) (insert_key name_order (names_known opening changes) other) ≡ false
        → (bytes_eq name other ≡ false) × (list_any (bytes_eq name) (names_known opening changes) ≡ false)
    apart name other h = or_parts (bytes_eq name other) (list_any (bytes_eq name) (names_known opening changes)) (sym (any_insert (bytes_eq name) (names_known opening changes) other) ∙ h)

    unknown : (name : List ℕ) (effect : Effect) → list_any (bytes_eq name) (with_name (zone_of effect) (names_known opening changes)) ≡ false → rows_left opening (by_effect change effect ∷ changes) name ≡ None
    unknown name (publication more) h = kept.unknown name h
    unknown name (zone_put other rows) h =
        ap (λ (b : Bool). unwrap_or (if b then Some (Some rows) else None) (rows_left opening changes name)) (apart name other h).0 ∙ kept.unknown name (apart name other h).1
    unknown name (zone_dropped other) h =
        ap (λ (b : Bool). unwrap_or (if b then Some None else None) (rows_left opening changes name)) (apart name other h).0 ∙ kept.unknown name (apart name other h).1
    unknown name (received_put ids) h = kept.unknown name h
    unknown name (patterns_put other patterns) h = kept.unknown name (apart name other h).1

    bare : (name : List ℕ) (effect : Effect) → IsOfZone (zones_left opening changes) effect → rows_left opening (by_effect change effect ∷ changes) name ≡ None → patterns_left opening (by_effect change effect ∷ changes) name ≡ []
    bare name (publication more) of h = kept.bare name h
    bare name (zone_put other rows) of h = by (bytes_eq name other) h
      where
        by : (b : Bool) → unwrap_or (if b then Some (Some rows) else None) (rows_left opening changes name) ≡ None → patterns_left opening changes name ≡ []
        by true g = cc
        by false g = kept.bare name g
    bare name (zone_dropped other) of h = by (bytes_eq name other) h
      where
        by : (b : Bool) → unwrap_or (if b then Some None else None) (rows_left opening changes name) ≡ None → unwrap_or (if b then Some [] else None) (patterns_left opening changes name) ≡ []
        by true g = refl
        by false g = kept.bare name g
    bare name (received_put ids) of h = kept.bare name h
    bare name (patterns_put other patterns) of h = by (bytes_eq name other) refl
      where
        by : (b : Bool) → bytes_eq name other ≡ b → unwrap_or (if b then Some patterns else None) (patterns_left opening changes name) ≡ []
        by true is =
            cc (h, rows_found opening changes other kept of, ap (λ n. rows_left opening changes n) (same_name name other is))
        by false is = kept.bare name h
