-- The rows of a zone, and the map that keeps them.
use Rattle.std.proofs.Common.{◌≡◌, ℕ, ◌∙◌, ◌↔◌, Some, ◌||◌, true, false, not, cond, List, [], ◌∷◌, ◌++◌, map, Some, Ok, inl, inr, refl, sym, ap}
use Rattle.std.specs.BTreeMap.{insert_entry, is_at}
use Rattle.std.specs.BTreeSet.{insert_key}
use Rattle.std.specs.Cmp.Lexicographic.{slice_cmp}
use Rattle.std.specs.List.{Contains, list_any}
use Rattle.std.specs.List.Sorted.{IsStrictlySortedBy}
use Rattle.std.specs.Map.{keys_of}
use Rattle.std.specs.Ordering.{is_eq, match_ordering, nat_cmp}
use Rattle.std.specs.Str.{bytes_eq}
use Rattle.std.specs.declared.cmp.Ordering.{Ordering}
use Rattle.std.specs.declared.cmp.Ordering.TheVariants.{Less, Equal, Greater}
use Rattle.std.proofs.Math.Bool.{or-false, or-true}
use Rattle.std.proofs.lemmas.Bool.{cases_Bool as tested, not-false}
use Rattle.std.proofs.lemmas.Cmp.{nat_list_eq_equiv}
use Rattle.std.proofs.lemmas.List.Folds.{list_any-append}
use Rattle.std.proofs.lemmas.Map.Text.{is_eq-slice_cmp}
use Rattle.std.proofs.lemmas.Slice.Eq.{bytes_eq-Decides}
use Rattle.zone_lists.specs.Fields.{Record}
use Rattle.zone_lists.specs.Gathered.{HasRows, has_other_state, row_of, state_at}
use Rattle.zone_lists.specs.ZoneList.{other_state, row_order, same_state, zone_list}
use Rattle.zone_lists.specs.Lists.{IsListed, answer}
use Rattle.zone_lists.specs.declared.zones.ZoneRow.{ZoneRow}
use Rattle.zone_lists.specs.declared.zones.ZoneState.{ZoneState}
use Rattle.zone_lists.specs.declared.zones.ZoneState.TheVariants.{Applied, Accepted, Superseded}
use Rattle.zone_lists.proofs.EachFacts.{IsExact, each}
use Rattle.zone_lists.proofs.ListFacts.{in_order_more}

-- no rows
pub no_rows : (entries : List (List ℕ × ZoneState)) → entries ≡ [] → HasRows entries []
no_rows entries none = record { listed = rw none refl; agrees = λ row. rw none refl }

same_state-is : (a b : ZoneState) → same_state a b ≡ true → a ≡ b
same_state-is Applied Applied same = refl
same_state-is Accepted Accepted same = refl
same_state-is Superseded Superseded same = refl
same_state-is Applied Accepted same = absurd (cc)
same_state-is Applied Superseded same = absurd (cc)
same_state-is Accepted Applied same = absurd (cc)
same_state-is Accepted Superseded same = absurd (cc)
same_state-is Superseded Applied same = absurd (cc)
same_state-is Superseded Accepted same = absurd (cc)

-- a row put where it belongs, after a comparison of its SYSMOD with that of an entry
row_put : (e : List ℕ × ZoneState) (es : List (List ℕ × ZoneState)) (row : ZoneRow) (o : Ordering) → has_other_state row.state (cond (is_eq o) (Some e.1) (state_at row.sysmod es)) ≡ false
    → (has_other_state row.state (state_at row.sysmod es) ≡ false → map row_of (insert_entry (slice_cmp nat_cmp) es row.sysmod row.state) ≡ insert_key row_order (map row_of es) row)
    → map row_of (match_ordering o ((row.sysmod, row.state) ∷ e ∷ es) ((e.0, row.state) ∷ es) (e ∷ insert_entry (slice_cmp nat_cmp) es row.sysmod row.state))
    ≡ match_ordering o (row ∷ row_of e ∷ map row_of es) (row_of e ∷ map row_of es) (row_of e ∷ insert_key row_order (map row_of es) row)
row_put e es row Less same later = refl
row_put e es row Equal same later = ap (λ state. row_of (e.0, state) ∷ map row_of es) (same_state-is row.state e.1 (not-false (same_state row.state e.1) same))
row_put e es row Greater same later = ap (λ rows. row_of e ∷ rows) (later same)

-- a row whose SYSMOD has no other state in the map is put among the rows where it belongs
row_put_more : (entries : List (List ℕ × ZoneState)) (row : ZoneRow) → has_other_state row.state (state_at row.sysmod entries) ≡ false
    → map row_of (insert_entry (slice_cmp nat_cmp) entries row.sysmod row.state) ≡ insert_key row_order (map row_of entries) row
row_put_more [] row same = refl
row_put_more (e ∷ es) row same = row_put e es row (slice_cmp nat_cmp row.sysmod e.0) same (λ h. row_put_more es row h)

-- whether a row contradicts one of these or one more
contradicts_more : (other row : ZoneRow) (seen : List ZoneRow) → list_any (other_state other) (seen ++ row ∷ []) ≡ (list_any (other_state other) seen || other_state other row)
contradicts_more other row seen = list_any-append (other_state other) seen (row ∷ []) ∙ ap (λ b. list_any (other_state other) seen || b) (or-false (other_state other row))

-- what the map has at an id after a row
at_same : (row : ZoneRow) (id : List ℕ) → is_at (slice_cmp nat_cmp row.sysmod) id ≡ bytes_eq id row.sysmod
at_same row id = is_eq-slice_cmp row.sysmod id ∙ nat_list_eq_equiv.symm row.sysmod id

-- one more row that contradicts none: which rows it contradicts is what the map says then
agrees_more : (seen : List ZoneRow) (entries entries2 : List (List ℕ × ZoneState)) (row : ZoneRow)
    → ((other : ZoneRow) → list_any (other_state other) seen ≡ has_other_state other.state (state_at other.sysmod entries))
    → ((id : List ℕ) → state_at id entries2 ≡ cond (is_at (slice_cmp nat_cmp row.sysmod) id) (Some row.state) (state_at id entries))
    → has_other_state row.state (state_at row.sysmod entries) ≡ false
    → (other : ZoneRow) → list_any (other_state other) (seen ++ row ∷ []) ≡ has_other_state other.state (state_at other.sysmod entries2)
agrees_more seen entries entries2 row agrees updates same other =
    rw (contradicts_more other row seen, updates other.sysmod, at_same row other.sysmod) (
    elim (tested (bytes_eq other.sysmod row.sysmod)) [
      | inl matching ↦ rw matching (
          elim (tested (same_state other.state row.state)) [
            | inl alike ↦ rw alike (or-false _ ∙ agrees other ∙ rw ((bytes_eq-Decides other.sysmod row.sysmod).0 matching, same_state-is other.state row.state alike) same)
            | inr differ ↦ rw differ (or-true _)
          ]
          )
      | inr other_id ↦ rw other_id (or-false _ ∙ agrees other)
    ]
    )

-- one more row
pub row_added : (came : List ZoneRow) (entries entries2 : List (List ℕ × ZoneState)) (row : ZoneRow) → HasRows entries came
    → entries2 ≡ insert_entry (slice_cmp nat_cmp) entries row.sysmod row.state
    → ((id : List ℕ) → state_at id entries2 ≡ cond (is_at (slice_cmp nat_cmp row.sysmod) id) (Some row.state) (state_at id entries))
    → has_other_state row.state (state_at row.sysmod entries) ≡ false
    → HasRows entries2 (came ++ row ∷ [])
row_added came entries entries2 row rows added updates same = record {
  listed = ap (λ es. map row_of es) added ∙ row_put_more entries row same ∙ ap (λ listed. insert_key row_order listed row) rows.listed ∙ sym (in_order_more zone_list came row);
  agrees = agrees_more came entries entries2 row rows.agrees updates same;
}

-- rows ascend where a map's keys do
pub rows_ascend : (entries : List (List ℕ × ZoneState)) (rows : List ZoneRow) → rows ≡ map row_of entries → IsStrictlySortedBy (slice_cmp nat_cmp) (keys_of entries)
    → IsStrictlySortedBy (slice_cmp nat_cmp) (map (λ row. row.sysmod) rows)
rows_ascend entries rows same ascending = rw (same, keys_of_rows entries) ascending
  where
    keys_of_rows : (es : List (List ℕ × ZoneState)) → map (λ row. row.sysmod) (map row_of es) ≡ keys_of es
    keys_of_rows [] = refl
    keys_of_rows (e ∷ es) = ap (λ ids. e.0 ∷ ids) (keys_of_rows es)

-- ---- rows as entries of a list

rows_exact : IsExact zone_list
rows_exact a b at calm =
    let ids : bytes_eq a.sysmod b.sysmod ≡ true = sym (is_eq-slice_cmp a.sysmod b.sysmod) ∙ ap is_eq at in
    let states : not (same_state a.state b.state) ≡ false = rw ids at calm in
    ap (λ id. row_of (id, b.state)) (sym ((bytes_eq-Decides a.sysmod b.sysmod).0 ids))
    ∙ ap (λ state. row_of (a.sysmod, state)) (sym (same_state-is a.state b.state (not-false (same_state a.state b.state) states)))

pub each_row : (records : List Record) (rows : List ZoneRow) → answer zone_list records ≡ Ok rows → (row : ZoneRow) → Contains rows row ↔ IsListed zone_list records row
each_row records rows answers row = each zone_list rows_exact records rows answers row
