-- The missing fix report: its holds, and its rows as lines.
use Rattle.std.proofs.Common.{◌≡◌, ◌∙◌, ℕ, ◌+◌, ◌<◌, ◌||◌, Bool, true, false, not, List, [], ◌∷◌, ◌++◌, Option, Some, None, filter, get_or, length, map, option_map, take, if◌then◌else◌, refl, sym, ap}
use Rattle.std.specs.Borrow.{Bor}
use Rattle.std.specs.BTreeMap.{insert_entry}
use Rattle.std.specs.BTreeSet.{replace_key}
use Rattle.std.specs.Cmp.{IsTotalOrder}
use Rattle.std.specs.Cmp.Lexicographic.{nat_list_cmp_total, options_total, slice_cmp}
use Rattle.std.specs.List.{cons_option, flat_map, fold, list_any}
use Rattle.std.specs.Option.{IfSome}
use Rattle.std.specs.Ordering.{nat_cmp}
use Rattle.std.proofs.lemmas.Bool.{or_right}
use Rattle.std.proofs.lemmas.Cmp.{on_total, then_total}
use Rattle.std.proofs.lemmas.Grind.{flat_map-append}
use Rattle.std.proofs.lemmas.List.{append-nil, map-append, take_more}
use Rattle.std.proofs.lemmas.List.Elements.{filter-append}
use Rattle.std.proofs.lemmas.List.Sums.{fold-append}
use Rattle.std.proofs.lemmas.Map.Lookups.{CmpEqualImpliesEq}
use Rattle.lemmas.proofs.ResultFacts.{if_some}
use Rattle.mcs_reader.specs.Bytes.{bytes_of_each}
use Rattle.holddata.specs.declared.hold.Hold.{Hold}
use Rattle.zone_lists.specs.Pattern.{does_match}
use Rattle.zone_lists.specs.declared.zones.ZoneRow.{ZoneRow}
use Rattle.catalogue.specs.Content.{Content}
use Rattle.catalogue.specs.Ids.{id_cmp, in_order, same_id}
use Rattle.catalogue.proofs.IdFacts.{exact_ids, ids_total, itself}
use Rattle.supersede.specs.Giving.{is_there}
use Rattle.supersede.specs.Reach.{has}
use Rattle.reports.specs.Found.{all_found, both_of, held_cmp, lent, missing_entries, missing_held, missing_key, named_by, put_groups, resolved_by, told, unless_resolver_there}
use Rattle.reports.specs.Holds.{HoldLists, held_by, is_asked, missing_holds_of, resolver_by}
use Rattle.reports.specs.Lines.{GroupParts, MissingRowsAreLines, group_of, lines_of, missing_groups, missing_lines_of, missing_order, missing_row_of}
use Rattle.reports.specs.MissingRows.{Missing, categories_asked, is_missing, is_resolver_there, missing_cmp, missing_row, missing_rows_of, missing_rows_of_category, resolvers_by, resolvers_of}
use Rattle.reports.specs.Resolvers.{AreAmong, candidates_for, each_or_none, is_received, status_in, unless_there}
use Rattle.reports.specs.declared.asking.By.TheVariants.{ReasonOrResolver}
use Rattle.reports.specs.declared.missing.MissingHeld.{MissingHeld}
use Rattle.reports.specs.declared.rows.MissingRow.{MissingRow}
use Rattle.reports.proofs.ErrorFacts.{both_equal, exact_options}
use Rattle.reports.proofs.KeyedFacts.{map_map, rows_kept, steps_replaced, values_put}

-- ---- the categories that patterns match

abbrev pub matched : List (List ℕ) → List ℕ → Bool
matched patterns category = list_any (λ pattern. does_match pattern category) patterns

abbrev pub groups_among : List (List ℕ) → HoldLists → List (List ℕ) → List GroupParts
groups_among patterns held categories = map (λ category. group_of category held) (filter (matched patterns) categories)

put_on : (entries : List (MissingHeld × GroupParts)) (first more : List GroupParts) → put_groups entries (first ++ more) ≡ put_groups (put_groups entries first) more
put_on entries first more = fold-append (λ old group. insert_entry held_cmp old (missing_key group) group) entries first more

groups_on : (patterns : List (List ℕ)) (held : HoldLists) (first more : List (List ℕ)) → groups_among patterns held (first ++ more) ≡ groups_among patterns held first ++ groups_among patterns held more
groups_on patterns held first more =
    ap (map (λ category. group_of category held)) (filter-append (matched patterns) first more) ∙ map-append (λ category. group_of category held) _ _

pub groups_more : (patterns : List (List ℕ)) (held : HoldLists) (texts : List (Bor (List ℕ))) (i : ℕ) (text : Bor (List ℕ)) (entries old new : List (MissingHeld × GroupParts)) (b : Bool) → i < length texts → text ≡ get_or texts i text
    → old ≡ put_groups entries (groups_among patterns held (bytes_of_each (take i texts)))
    → b ≡ matched patterns text.now
    → new ≡ (if b then insert_entry held_cmp old (missing_held (record { category = text.now; hold = held.hold })) (group_of text.now held) else old)
    → new ≡ put_groups entries (groups_among patterns held (bytes_of_each (take (i + 1) texts)))
groups_more patterns held texts i text entries old new b below at was is now =
    now
    ∙ by b (sym is)
    ∙ ap (λ front. put_groups front (groups_among patterns held (text.now ∷ []))) was
    ∙ sym (put_on entries (groups_among patterns held (bytes_of_each (take i texts))) (groups_among patterns held (text.now ∷ [])))
    ∙ ap (put_groups entries) (sym (groups_on patterns held (bytes_of_each (take i texts)) (text.now ∷ [])))
    ∙ ap (λ categories. put_groups entries (groups_among patterns held categories)) (sym (map-append (λ (item : Bor (List ℕ)). item.now) (take i texts) (text ∷ [])))
    ∙ ap (λ items. put_groups entries (groups_among patterns held (bytes_of_each items))) (sym (take_more texts i text below ∙ ap (λ t. take i texts ++ t ∷ []) (sym at)))
  where
    by : (b : Bool) → matched patterns text.now ≡ b
        → (if b then insert_entry held_cmp old (missing_held (record { category = text.now; hold = held.hold })) (group_of text.now held) else old) ≡ put_groups old (groups_among patterns held (text.now ∷ []))
    by true h = rw h refl
    by false h = rw h refl

-- whether a pattern matches one of the texts that are lent
pub any_lent : (matches : List ℕ → Bool) (texts : List (Bor (List ℕ))) → list_any (λ (text : Bor (List ℕ)). matches text.now) texts ≡ list_any matches (bytes_of_each texts)
any_lent matches [] = refl
any_lent matches (text ∷ texts) = ap (λ b. matches text.now || b) (any_lent matches texts)

-- ---- what was answered

pub resolver_among : (hold : Hold) (asked : List (List ℕ)) → AreAmong (named_by ReasonOrResolver hold) asked → IfSome hold.resolver (λ resolver. has asked resolver ≡ true)
resolver_among hold asked among = if_some (λ resolver. has asked resolver ≡ true) hold.resolver (λ id is.
    let last : has (cons_option hold.resolver []) id ≡ true = ap (λ o. has (cons_option o []) id) is ∙ rw (itself id) refl in
    among id (or_right (same_id id hold.key.reason) (has (cons_option hold.resolver []) id) last))

-- the candidates that were found, and the resolver
pub with_resolver : {X : Type 0} (f : X → List (List ℕ)) (found : Option X) (id : List ℕ) (there : Bool) (candidates : List (List ℕ)) → option_map f found ≡ (if there then None else Some candidates)
    → option_map (λ x. f x ++ id ∷ []) found ≡ (if there then None else Some (candidates ++ id ∷ []))
with_resolver {X} f found id there candidates are = twice found ∙ ap (option_map (λ ids. ids ++ id ∷ [])) are ∙ by there where
  twice : (o : Option X) → option_map (λ x. f x ++ id ∷ []) o ≡ option_map (λ ids. ids ++ id ∷ []) (option_map f o)
  twice None = refl
  twice (Some x) = refl

  by : (b : Bool) → option_map (λ ids. ids ++ id ∷ []) (if b then None else Some candidates) ≡ (if b then None else Some (candidates ++ id ∷ []))
  by true = refl
  by false = refl

-- ---- the order of the report

missing_total : IsTotalOrder held_cmp
missing_total =
    then_total (on_total (λ (h : MissingHeld). h.category) nat_list_cmp_total)
    (then_total (on_total (λ (h : MissingHeld). h.sysmod) ids_total)
    (then_total (on_total (λ (h : MissingHeld). h.reason) ids_total) (on_total (λ (h : MissingHeld). h.resolver) (options_total ids_total))))

abbrev missing_by : List ℕ → List ℕ → List ℕ → Option (List ℕ) → MissingHeld
missing_by category sysmod reason resolver = record { category = category; sysmod = sysmod; reason = reason; resolver = resolver }

exact_missing : CmpEqualImpliesEq held_cmp
exact_missing a b e =
    let categories = both_equal (slice_cmp nat_cmp a.category b.category) _ e in
    let sysmods = both_equal (id_cmp a.sysmod b.sysmod) _ categories.second in
    let reasons = both_equal (id_cmp a.reason b.reason) _ sysmods.second in
    ap (λ c. missing_by c a.sysmod a.reason a.resolver) (exact_ids a.category b.category categories.first)
    ∙ ap (λ s. missing_by b.category s a.reason a.resolver) (exact_ids a.sysmod b.sysmod sysmods.first)
    ∙ ap (λ r. missing_by b.category b.sysmod r a.resolver) (exact_ids a.reason b.reason reasons.first)
    ∙ ap (missing_by b.category b.sysmod b.reason) (exact_options a.resolver b.resolver reasons.second)

-- ---- the holds that are found

-- what resolves a hold, unless it is there
both_are : (content : Content) (rows : List ZoneRow) (hold : Hold) → both_of (unless_there content rows hold.key.reason) (unless_resolver_there content rows hold.resolver)
    ≡ (if is_missing content rows hold then Some (resolvers_of content rows hold) else None)
both_are content rows hold = by (is_there content rows hold.key.reason) (is_resolver_there content rows hold.resolver)
  where
    by : (a b : Bool)
        → both_of (if a then None else Some (candidates_for content rows hold.key.reason)) (if b then None else Some (resolvers_by content rows hold.resolver))
        ≡ (if not (a || b) then Some (resolvers_of content rows hold) else None)
    by true true = refl
    by true false = refl
    by false true = refl
    by false false = refl

module _ (content : Content) (rows : List ZoneRow) (received : List (List ℕ)) where
  abbrev held_of : Hold → HoldLists
  held_of hold = held_by (status_in content rows) received hold (resolvers_of content rows hold)

  abbrev missing : Hold → Bool
  missing hold = is_missing content rows hold

  found_lent : (holds : List (Bor Hold)) → map (told (status_in content rows) received) (all_found (resolved_by ReasonOrResolver content rows) holds) ≡ map held_of (filter missing (lent holds))
  found_lent [] = refl
  found_lent (hold ∷ holds) =
      ap (λ o. map (told (status_in content rows) received) (cons_option (option_map (λ ids. record { hold = hold.now; ids = ids }) o) (all_found (resolved_by ReasonOrResolver content rows) holds)))
      (both_are content rows hold.now)
      ∙ by (missing hold.now) (found_lent holds)
    where
      by : (b : Bool) → map (told (status_in content rows) received) (all_found (resolved_by ReasonOrResolver content rows) holds) ≡ map held_of (filter missing (lent holds))
          → map (told (status_in content rows) received)
          (cons_option (option_map (λ ids. record { hold = hold.now; ids = ids }) (if b then Some (resolvers_of content rows hold.now) else None)) (all_found (resolved_by ReasonOrResolver content rows) holds))
          ≡ map held_of (if b then hold.now ∷ filter missing (lent holds) else filter missing (lent holds))
      by true rest = ap (λ l. held_of hold.now ∷ l) rest
      by false rest = rest

  pub holds_found : (patterns : List (List ℕ)) (holds : List Hold) (all : List (Bor Hold)) (helds : List HoldLists) → lent all ≡ filter (is_asked patterns) holds
      → helds ≡ map (told (status_in content rows) received) (all_found (resolved_by ReasonOrResolver content rows) all) → helds ≡ missing_holds_of content rows received patterns holds
  holds_found patterns holds all helds same is = is ∙ found_lent all ∙ ap (λ l. map held_of (filter missing l)) same

  -- ---- rows

  abbrev group_by : Missing → GroupParts
  group_by one = group_of one.category (held_of one.hold)

  abbrev rows_under : MissingHeld → List MissingRow
  rows_under held = map (λ resolver. record {
    category = held.category;
    sysmod = held.sysmod;
    reason = held.reason;
    resolver = resolver;
    status = option_map (status_in content rows) resolver;
    received = option_map (is_received received) resolver;
  }) (each_or_none (in_order (candidates_for content rows held.reason ++ resolvers_by content rows held.resolver)))

  abbrev missing_under : MissingHeld → Bool
  missing_under held = not (is_there content rows held.reason || is_resolver_there content rows held.resolver)

  rows_in : (one : Missing) (ids : List (List ℕ))
      → map missing_row_of (lines_of (group_of one.category (held_by (status_in content rows) received one.hold ids))) ≡ map (missing_row content rows received one) (each_or_none ids)
  rows_in one [] = refl
  rows_in one (first ∷ more) = ap (λ l. missing_row content rows received one (Some first) ∷ l) (each more)
    where
      each : (ids : List (List ℕ)) → map missing_row_of (map (λ resolver. record { category = one.category; hold = one.hold; resolver = resolver }) (map Some (map (resolver_by (status_in content rows) received) ids)))
          ≡ map (missing_row content rows received one) (map Some ids)
      each [] = refl
      each (id ∷ ids) = ap (λ l. missing_row content rows received one (Some id) ∷ l) (each ids)

  lines_as_rows : (ones : List Missing) → map missing_row_of (flat_map lines_of (map group_by ones)) ≡ flat_map (missing_rows_of_category content rows received) ones
  lines_as_rows [] = refl
  lines_as_rows (one ∷ ones) =
      map-append missing_row_of (lines_of (group_by one)) (flat_map lines_of (map group_by ones))
      ∙ ap (λ l. l ++ map missing_row_of (flat_map lines_of (map group_by ones))) (rows_in one (resolvers_of content rows one.hold))
      ∙ ap (λ l. missing_rows_of_category content rows received one ++ l) (lines_as_rows ones)

  module _ (patterns : List (List ℕ)) where
    abbrev missing_one : Missing → Bool
    missing_one one = is_missing content rows one.hold

    -- the groups of holds are made from the categories of these
    groups_made : (holds : List Hold) → flat_map (missing_groups patterns) (map held_of holds) ≡ map group_by (flat_map (categories_asked patterns) holds)
    groups_made [] = refl
    groups_made (hold ∷ holds) =
        ap (λ l. missing_groups patterns (held_of hold) ++ l) (groups_made holds)
        ∙ ap (λ l. l ++ map group_by (flat_map (categories_asked patterns) holds)) (sym (map_map group_by (λ category. record { category = category; hold = hold }) (filter (matched patterns) hold.categories)))
        ∙ sym (map-append group_by (categories_asked patterns hold) (flat_map (categories_asked patterns) holds))

    none_matched : (categories : List (List ℕ)) → list_any (matched patterns) categories ≡ false → filter (matched patterns) categories ≡ []
    none_matched [] none = refl
    none_matched (category ∷ categories) none = by (matched patterns category) (none_matched categories) none
      where
        by : (b : Bool) → (list_any (matched patterns) categories ≡ false → filter (matched patterns) categories ≡ []) → (b || list_any (matched patterns) categories) ≡ false
            → (if b then category ∷ filter (matched patterns) categories else filter (matched patterns) categories) ≡ []
        by true rest none = absurd (cc none)
        by false rest none = rest none

    abbrev of_hold : Hold → List (List ℕ) → List Missing
    of_hold hold categories = map (λ category. record { category = category; hold = hold }) categories

    all_missing : (hold : Hold) (categories : List (List ℕ)) → missing hold ≡ true → filter missing_one (of_hold hold categories) ≡ of_hold hold categories
    all_missing hold [] h = refl
    all_missing hold (category ∷ categories) h = rw h (ap (λ l. record { category = category; hold = hold } ∷ l) (all_missing hold categories h))

    none_missing : (hold : Hold) (categories : List (List ℕ)) → missing hold ≡ false → filter missing_one (of_hold hold categories) ≡ []
    none_missing hold [] h = refl
    none_missing hold (category ∷ categories) h = rw h (none_missing hold categories h)

    abbrev kept_of : List Hold → List Hold
    kept_of holds = filter missing (filter (is_asked patterns) holds)

    -- the categories of the holds that are asked for and missing
    asked_missing : (holds : List Hold) → flat_map (categories_asked patterns) (filter missing (filter (is_asked patterns) holds)) ≡ filter missing_one (flat_map (categories_asked patterns) holds)
    asked_missing [] = refl
    asked_missing (hold ∷ holds) =
        by (is_asked patterns hold) refl (missing hold) refl (asked_missing holds)
        ∙ sym (filter-append missing_one (categories_asked patterns hold) (flat_map (categories_asked patterns) holds))
      where
        by : (a : Bool) → is_asked patterns hold ≡ a → (m : Bool) → missing hold ≡ m → flat_map (categories_asked patterns) (kept_of holds) ≡ filter missing_one (flat_map (categories_asked patterns) holds)
            → flat_map (categories_asked patterns) (filter missing (if a then hold ∷ filter (is_asked patterns) holds else filter (is_asked patterns) holds))
            ≡ filter missing_one (categories_asked patterns hold) ++ filter missing_one (flat_map (categories_asked patterns) holds)
        by false asked m is rest =
            rest ∙ ap (λ l. filter missing_one (of_hold hold l) ++ filter missing_one (flat_map (categories_asked patterns) holds)) (sym (none_matched hold.categories asked))
        by true asked true is rest =
            let front : filter missing (hold ∷ filter (is_asked patterns) holds) ≡ hold ∷ kept_of holds = rw is refl in
            ap (flat_map (categories_asked patterns)) front
            ∙ ap (λ l. categories_asked patterns hold ++ l) rest
            ∙ ap (λ l. l ++ filter missing_one (flat_map (categories_asked patterns) holds)) (sym (all_missing hold (filter (matched patterns) hold.categories) is))
        by true asked false is rest =
            let front : filter missing (hold ∷ filter (is_asked patterns) holds) ≡ kept_of holds = rw is refl in
            ap (flat_map (categories_asked patterns)) front
            ∙ rest
            ∙ ap (λ l. l ++ filter missing_one (flat_map (categories_asked patterns) holds)) (sym (none_missing hold (filter (matched patterns) hold.categories) is))

    pub rows_lined : (holds : List Hold) → missing_rows_of content rows received patterns holds ≡ map missing_row_of (missing_lines_of patterns (missing_holds_of content rows received patterns holds))
    rows_lined holds =
        let ones = flat_map (categories_asked patterns) holds in
        let kept = filter missing (filter (is_asked patterns) holds) in
        sym (rows_kept missing_held held_cmp exact_missing missing_total rows_under missing_under ones)
        ∙ sym (lines_as_rows (fold (replace_key missing_cmp) [] (filter missing_one ones)))
        ∙ ap (λ groups. map missing_row_of (flat_map lines_of groups))
        (sym (steps_replaced group_by missing_order [] (filter missing_one ones))
        ∙ ap (λ l. fold (replace_key missing_order) [] (map group_by l)) (sym (asked_missing holds))
        ∙ ap (fold (replace_key missing_order) []) (sym (groups_made kept)))

pub missing_rows_are_lines : MissingRowsAreLines
missing_rows_are_lines content rows received patterns holds = rows_lined content rows received patterns holds

-- ---- groups in order

pub in_order_is : (patterns : List (List ℕ)) (helds : List HoldLists)
    → map (λ (entry : MissingHeld × GroupParts). entry.1) (missing_entries patterns [] helds) ≡ fold (replace_key missing_order) [] (flat_map (missing_groups patterns) helds)
in_order_is patterns helds = values_put missing_key held_cmp exact_missing (flat_map (missing_groups patterns) helds)

-- groups of one more hold are put
pub entries_more : (patterns : List (List ℕ)) (helds : List HoldLists) (i : ℕ) (held : HoldLists) (old new : List (MissingHeld × GroupParts)) → i < length helds → held ≡ get_or helds i held
    → old ≡ missing_entries patterns [] (take i helds) → new ≡ put_groups old (missing_groups patterns held) → new ≡ missing_entries patterns [] (take (i + 1) helds)
entries_more patterns helds i held old new below at was now =
    now
    ∙ ap (λ entries. put_groups entries (missing_groups patterns held)) was
    ∙ sym (put_on [] (flat_map (missing_groups patterns) (take i helds)) (missing_groups patterns held))
    ∙ ap (λ l. put_groups [] (flat_map (missing_groups patterns) (take i helds) ++ l)) (sym (append-nil (missing_groups patterns held)))
    ∙ ap (put_groups []) (sym (flat_map-append (missing_groups patterns) (take i helds) (held ∷ [])))
    ∙ ap (missing_entries patterns []) (sym (take_more helds i held below ∙ ap (λ h. take i helds ++ h ∷ []) (sym at)))
