-- The exception SYSMOD report: its holds, and its rows as lines.
use Rattle.std.proofs.Common.{◌≡◌, ◌∙◌, ℕ, Bool, true, false, not, List, [], ◌∷◌, ◌++◌, Option, Some, None, filter, get_or, length, map, option_map, take, ◌+◌, ◌<◌, if◌then◌else◌, refl, sym, ap}
use Rattle.std.specs.Borrow.{Bor}
use Rattle.std.specs.BTreeMap.{insert_entry}
use Rattle.std.specs.BTreeSet.{replace_key}
use Rattle.std.specs.Cmp.{IsTotalOrder}
use Rattle.std.specs.Cmp.Lexicographic.{options_total}
use Rattle.std.specs.List.{cons_option, flat_map, fold}
use Rattle.std.specs.Option.{option_cmp}
use Rattle.std.specs.Ordering.{ordering_then}
use Rattle.std.specs.declared.cmp.Ordering.{Ordering}
use Rattle.std.specs.declared.cmp.Ordering.TheVariants.{Less, Equal, Greater}
use Rattle.std.proofs.lemmas.Cmp.{on_total, then_total}
use Rattle.std.proofs.lemmas.List.{map-append, take_more}
use Rattle.std.proofs.lemmas.List.Sums.{fold-append}
use Rattle.std.proofs.lemmas.Map.Lookups.{CmpEqualImpliesEq}
use Rattle.holddata.specs.declared.hold.Hold.{Hold}
use Rattle.zone_lists.specs.declared.zones.ZoneRow.{ZoneRow}
use Rattle.catalogue.specs.Content.{Content}
use Rattle.catalogue.specs.Ids.{id_cmp}
use Rattle.catalogue.proofs.IdFacts.{exact_ids, ids_total}
use Rattle.supersede.specs.Giving.{is_there}
use Rattle.reports.specs.ErrRows.{err_row, err_rows_of, err_rows_of_hold, hold_cmp}
use Rattle.reports.specs.Found.{all_found, error_cmp, error_entries, error_held, lent, put_errors, resolved_by, told}
use Rattle.reports.specs.Holds.{HoldLists, err_holds_of, held_by, resolver_by}
use Rattle.reports.specs.Lines.{ErrRowsAreLines, GroupParts, err_lines_of, err_order, err_row_of, group_of, lines_of}
use Rattle.reports.specs.Resolvers.{candidates_for, each_or_none, is_received, status_in}
use Rattle.reports.specs.declared.asking.By.TheVariants.{Reason}
use Rattle.reports.specs.declared.errors.ErrorHeld.{ErrorHeld}
use Rattle.reports.specs.declared.rows.ErrRow.{ErrRow}
use Rattle.reports.proofs.KeyedFacts.{map_map, rows_kept, steps_replaced, values_put}

-- ---- orders of several fields

pub record AreEqual (a b : Ordering) : Type 0 where
  pub first : a ≡ Equal
  pub second : b ≡ Equal

pub both_equal : (a b : Ordering) → ordering_then a b ≡ Equal → AreEqual a b
both_equal Less b e = absurd (cc e)
both_equal Equal b e = record { first = refl; second = e }
both_equal Greater b e = absurd (cc e)

pub exact_options : CmpEqualImpliesEq (option_cmp id_cmp)
exact_options None None e = refl
exact_options None (Some b) e = absurd (cc e)
exact_options (Some a) None e = absurd (cc e)
exact_options (Some a) (Some b) e = ap Some (exact_ids a b e)

errors_total : IsTotalOrder error_cmp
errors_total =
    then_total (on_total (λ (h : ErrorHeld). h.fmid) (options_total ids_total))
    (then_total (on_total (λ (h : ErrorHeld). h.sysmod) ids_total)
    (then_total (on_total (λ (h : ErrorHeld). h.reason) ids_total) (on_total (λ (h : ErrorHeld). h.class) (options_total ids_total))))

abbrev error_by : Option (List ℕ) → List ℕ → List ℕ → Option (List ℕ) → ErrorHeld
error_by fmid sysmod reason class = record { fmid = fmid; sysmod = sysmod; reason = reason; class = class }

exact_errors : CmpEqualImpliesEq error_cmp
exact_errors a b e =
    let fmids = both_equal (option_cmp id_cmp a.fmid b.fmid) _ e in
    let sysmods = both_equal (id_cmp a.sysmod b.sysmod) _ fmids.second in
    let reasons = both_equal (id_cmp a.reason b.reason) _ sysmods.second in
    ap (λ f. error_by f a.sysmod a.reason a.class) (exact_options a.fmid b.fmid fmids.first)
    ∙ ap (λ s. error_by b.fmid s a.reason a.class) (exact_ids a.sysmod b.sysmod sysmods.first)
    ∙ ap (λ r. error_by b.fmid b.sysmod r a.class) (exact_ids a.reason b.reason reasons.first)
    ∙ ap (error_by b.fmid b.sysmod b.reason) (exact_options a.class b.class reasons.second)

-- ---- the holds that are found

module _ (content : Content) (rows : List ZoneRow) (received : List (List ℕ)) where
  abbrev held_of : Hold → HoldLists
  held_of hold = held_by (status_in content rows) received hold (candidates_for content rows hold.key.reason)

  abbrev absent : Hold → Bool
  absent hold = not (is_there content rows hold.key.reason)

  found_lent : (holds : List (Bor Hold)) → map (told (status_in content rows) received) (all_found (resolved_by Reason content rows) holds) ≡ map held_of (filter absent (lent holds))
  found_lent [] = refl
  found_lent (hold ∷ holds) = by (is_there content rows hold.now.key.reason) (found_lent holds)
    where
      by : (b : Bool) → map (told (status_in content rows) received) (all_found (resolved_by Reason content rows) holds) ≡ map held_of (filter absent (lent holds))
          → map (told (status_in content rows) received)
          (cons_option (option_map (λ ids. record { hold = hold.now; ids = ids }) (if b then None else Some (candidates_for content rows hold.now.key.reason))) (all_found (resolved_by Reason content rows) holds))
          ≡ map held_of (if not b then hold.now ∷ filter absent (lent holds) else filter absent (lent holds))
      by true rest = rest
      by false rest = ap (λ l. held_of hold.now ∷ l) rest

  pub holds_found : (holds : List Hold) (all : List (Bor Hold)) (helds : List HoldLists) → lent all ≡ holds
      → helds ≡ map (told (status_in content rows) received) (all_found (resolved_by Reason content rows) all) → helds ≡ err_holds_of content rows received holds
  holds_found holds all helds same is = is ∙ found_lent all ∙ ap (λ l. map held_of (filter absent l)) same

  -- ---- rows

  -- the rows of a hold, by what the report orders it by
  abbrev rows_under : ErrorHeld → List ErrRow
  rows_under held = map (λ resolver. record {
    fmid = held.fmid;
    sysmod = held.sysmod;
    reason = held.reason;
    resolver = resolver;
    status = option_map (status_in content rows) resolver;
    received = option_map (is_received received) resolver;
    class = held.class;
  }) (each_or_none (candidates_for content rows held.reason))

  rows_in : (hold : Hold) (ids : List (List ℕ))
      → map err_row_of (lines_of (group_of [] (held_by (status_in content rows) received hold ids))) ≡ map (err_row content rows received hold) (each_or_none ids)
  rows_in hold [] = refl
  rows_in hold (first ∷ more) = ap (λ l. err_row content rows received hold (Some first) ∷ l) (each more)
    where
      each : (ids : List (List ℕ)) → map err_row_of (map (λ resolver. record { category = []; hold = hold; resolver = resolver }) (map Some (map (resolver_by (status_in content rows) received) ids)))
          ≡ map (err_row content rows received hold) (map Some ids)
      each [] = refl
      each (id ∷ ids) = ap (λ l. err_row content rows received hold (Some id) ∷ l) (each ids)

  lines_as_rows : (holds : List Hold) → map err_row_of (flat_map lines_of (map (λ hold. group_of [] (held_of hold)) holds)) ≡ flat_map (err_rows_of_hold content rows received) holds
  lines_as_rows [] = refl
  lines_as_rows (hold ∷ holds) =
      map-append err_row_of (lines_of (group_of [] (held_of hold))) (flat_map lines_of (map (λ hold. group_of [] (held_of hold)) holds))
      ∙ ap (λ l. l ++ map err_row_of (flat_map lines_of (map (λ hold. group_of [] (held_of hold)) holds))) (rows_in hold (candidates_for content rows hold.key.reason))
      ∙ ap (λ l. err_rows_of_hold content rows received hold ++ l) (lines_as_rows holds)

  abbrev absent_under : ErrorHeld → Bool
  absent_under held = not (is_there content rows held.reason)

  pub rows_lined : (holds : List Hold) → err_rows_of content rows received holds ≡ map err_row_of (err_lines_of (err_holds_of content rows received holds))
  rows_lined holds =
      sym (rows_kept error_held error_cmp exact_errors errors_total rows_under absent_under holds)
      ∙ sym (lines_as_rows (fold (replace_key hold_cmp) [] (filter absent holds)))
      ∙ ap (λ groups. map err_row_of (flat_map lines_of groups))
      (sym (steps_replaced (λ hold. group_of [] (held_of hold)) err_order [] (filter absent holds))
      ∙ ap (fold (replace_key err_order) []) (sym (map_map (group_of []) held_of (filter absent holds))))

pub err_rows_are_lines : ErrRowsAreLines
err_rows_are_lines content rows received holds = rows_lined content rows received holds

-- ---- groups in order

pub in_order_is : (helds : List HoldLists) → map (λ (entry : ErrorHeld × GroupParts). entry.1) (error_entries [] helds) ≡ fold (replace_key err_order) [] (map (group_of []) helds)
in_order_is helds = values_put (λ (group : GroupParts). error_held group.hold) error_cmp exact_errors (map (group_of []) helds)

-- one more hold is put
pub entries_more : (helds : List HoldLists) (i : ℕ) (held : HoldLists) (old new : List (ErrorHeld × GroupParts)) → i < length helds → held ≡ get_or helds i held
    → old ≡ error_entries [] (take i helds) → new ≡ insert_entry error_cmp old (error_held held.hold) (group_of [] held) → new ≡ error_entries [] (take (i + 1) helds)
entries_more helds i held old new below at was now =
    now
    ∙ ap (λ entries. insert_entry error_cmp entries (error_held held.hold) (group_of [] held)) was
    ∙ sym (fold-append (λ old group. insert_entry error_cmp old (error_held group.hold) group) [] (map (group_of []) (take i helds)) (group_of [] held ∷ []))
    ∙ ap (put_errors []) (sym (map-append (group_of []) (take i helds) (held ∷ [])))
    ∙ ap (error_entries []) (sym (take_more helds i held below ∙ ap (λ h. take i helds ++ h ∷ []) (sym at)))
