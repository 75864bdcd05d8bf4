-- Why the statement is refused that deletes a hold, and that no row comes twice into a table by a list in order.
use Rattle.std.proofs.Common.{◌≡◌, ◌<◌, ◌&&◌, ◌++◌, ℕ, zero, suc, Bool, false, true, List, [], ◌∷◌, Less, Ordering, Result, length, take, get_or, map, refl, sym, ◌∙◌, ap, subst, inl, inr}
use Rattle.std.specs.List.{AllByRecursion, list_any}
use Rattle.std.specs.List.Sorted.{IsStrictlySortedBy}
use Rattle.std.specs.Ordering.{is_eq, ordering_then}
use Rattle.std.proofs.lemmas.Bool.{and_from, and_parts}
use Rattle.std.proofs.lemmas.Map.Text.{is_eq-slice_cmp}
use Rattle.std.proofs.lemmas.Slice.Eq.{bytes_eq-Decides}
use Rattle.holddata.specs.declared.key.HoldKey.{HoldKey}
use Rattle.mcs_reader.specs.Id.{IsId}
use Rattle.catalogue.specs.Conditional.{CondsAscend, cond_cmp}
use Rattle.catalogue.specs.Ids.{Ascend, id_cmp}
use Rattle.catalogue.specs.declared.conditional.CondNeed.{CondNeed}
use Rattle.catalogue.proofs.IdFacts.{one_id}
use Rattle.zone_lists.specs.declared.zones.ZoneRow.{ZoneRow}
use Rattle.sqlite.specs.Order.{Row, column}
use Rattle.sqlite.specs.State.{State}
use Rattle.sqlite.specs.Table.{Table}
use Rattle.sqlite.specs.Values.{bound, bound_value}
use Rattle.sqlite.specs.declared.error.Error.{Error}
use Rattle.sqlite_rules.specs.Lists.{Has}
use Rattle.sqlite_rules.proofs.ListLemmas.{all_has}
use Rattle.sqlite_value.specs.Value.{owned}
use Rattle.sqlite_value.specs.declared.value.ValueRef.{ValueRef}
use Rattle.lemmas.proofs.TestFacts.{equal_is}
use Rattle.sql_texts.specs.Meaning.{Means}
use Rattle.sql_texts.specs.Reads.{is_given}
use Rattle.sql_texts.specs.Schema as schema
use Rattle.sql_texts.specs.Schema.{bureau}
use Rattle.sql_texts.specs.Writes.{delete_of}
use Rattle.sql_tables.specs.Changes.{coming, going, replaced}
use Rattle.sql_tables.specs.Fit.{AreIds, AreZoneRows, IsCond, IsZoneRow}
use Rattle.sql_tables.specs.Rows.{cond_row, sup_row, zone_row}
use Rattle.sql_tables.specs.Stored.{Stored, cond_table, is_named, is_of, is_of_both, of_table, row_table}
use Rattle.sql_tables.specs.Values.{hold_kind_value, id_value}
use Rattle.sql_tables.proofs.ValueFacts.{named_value}
use Rattle.sql_writes.specs.Excused.{Takes}
use Rattle.sql_rows.specs.Parts.{is_of_three}
use Rattle.sql_writes.specs.Many.{AreNewInPlace}
use Rattle.sql_writes.proofs.AlikeFacts.{each_new}
use Rattle.sql_rows.specs.Running.{FailsInside, Ran}
use Rattle.sql_rows.specs.Standing.{Stands}
use Rattle.sql_rows.proofs.AbsentFacts.{gone_and_come, gone_now, none_before}
use Rattle.sql_writes.proofs.StepFacts.{goes_takes}

-- ---- rows that go

module _ (old new : State) (text : List ℕ) (result : Result (Unit {0}) Error) where
  -- a hold
  pub holds_leave : (key : HoldKey) (a b c : ValueRef) → owned a ≡ id_value key.sysmod → owned b ≡ hold_kind_value key.kind → owned c ≡ id_value key.reason
      → Means bureau text (delete_of 5 11 (is_given 1 0 ∷ is_given 2 1 ∷ is_given 3 2 ∷ [])) 3 → Ran text (bound (a ∷ b ∷ c ∷ [])) old new result → FailsInside text (bound (a ∷ b ∷ c ∷ [])) old new result
      → Takes old new result 0 (λ stored. Unit {0})
  holds_leave key a b c at_a at_b at_c means ran fails =
      let given : bound (a ∷ b ∷ c ∷ []) ≡ id_value key.sysmod ∷ hold_kind_value key.kind ∷ id_value key.reason ∷ [] = λ i. bound_value (at_a i) ∷ bound_value (at_b i) ∷ bound_value (at_c i) ∷ [] in
      goes_takes text old new result 5 schema.hold_row refl (λ database known. known.numbered.1.1.1.1.1.0) (λ most trees low. low.1.1.1.1.1.0) (is_given 1 0 ∷ is_given 2 1 ∷ is_given 3 2 ∷ []) 3 _ means refl refl
      (subst (λ row. Ran text row old new result) given ran) (subst (λ row. FailsInside text row old new result) given fails)

-- ---- what is there no more

-- rows of a table that went are there no more, whichever table it is
pub none_left : (index : ℕ) (table : Table) (rows : Stored → List Row) (with_rows : List Row → Stored → Stored) → Stands index table rows with_rows → (has : Row → Bool) (stored : Stored)
    → list_any has (rows (going (of_table rows with_rows) has stored)) ≡ false
none_left index table rows with_rows stands has stored =
    ap (list_any has) (stands.got (replaced has [] (rows stored)) stored) ∙ gone_now has has (λ row h. h) (rows stored)

-- ---- lists in order

taken_has : {X : Type 0} (n : ℕ) (xs : List X) (x : X) → Has (take n xs) x → Has xs x
taken_has zero xs x h = absurd h
taken_has (suc n) [] x h = h
taken_has (suc n) (y ∷ ys) x (inl same) = inl same
taken_has (suc n) (y ∷ ys) x (inr later) = inr (taken_has n ys x later)

pub same_order : (a b : List ℕ) → a ≡ b → is_eq (id_cmp a b) ≡ true
same_order a b same = is_eq-slice_cmp a b ∙ (bytes_eq-Decides a b).1 same

pub named : (id other : List ℕ) → IsId id → is_named other (id_value id) ≡ true → id ≡ other
named id other is h = one_id id other (sym (named_value id other is) ∙ h)

-- one more that a record supersedes
pub next_sup : (id : List ℕ) (members : List (List ℕ)) (i : ℕ) (member : List ℕ) → AreIds members → Ascend members → i < length members → member ≡ get_or members i member
    → (rows : List Row) → list_any (is_of_both id member) (replaced (is_of id) [] rows ++ map (sup_row id) (take i members)) ≡ false
next_sup id members i member ids up low at rows =
    gone_and_come (is_of id) (is_of_both id member) (λ row h. (and_parts _ _ h).0) rows (sup_row id) (take i members) (λ other here h.
    let same = named other member (all_has IsId members other ids (taken_has i members other here)) (and_parts _ _ h).1 in
    none_before id_cmp members up i member low at other here (same_order other member same))

-- one more that it requires under a condition
pub next_cond : (id : List ℕ) (conds : List CondNeed) (i : ℕ) (cond : CondNeed) → AllByRecursion IsCond conds → CondsAscend conds → i < length conds → cond ≡ get_or conds i cond
    → (stored : Stored) → list_any (is_of_three id cond.fmid cond.need) (coming cond_table (map (cond_row id) (take i conds)) (going cond_table (is_of id) stored)).conds ≡ false
next_cond id conds i cond ids up low at stored =
    gone_and_come (is_of id) (is_of_three id cond.fmid cond.need) (λ row h. (and_parts _ _ h).0) stored.conds (cond_row id) (take i conds) (λ other here h.
    let is = all_has IsCond conds other ids (taken_has i conds other here) in
    let parts = and_parts _ _ (and_parts _ _ h).1 in
    let same_fmid = named other.fmid cond.fmid is.0 parts.0 in
    let same_need = named other.need cond.need is.1 parts.1 in
    none_before cond_cmp conds up i cond low at other here
    (ap (λ o. is_eq (ordering_then o (id_cmp other.need cond.need))) (equal_is _ (same_order other.fmid cond.fmid same_fmid)) ∙ same_order other.need cond.need same_need))

-- rows ascend by what their order is of
ascend_so : {X Y : Type 0} (order : Y → Y → Ordering) (of : X → Y) (xs : List X) → IsStrictlySortedBy order (map of xs) → IsStrictlySortedBy (λ a b. order (of a) (of b)) xs
unfolding IsStrictlySortedBy
ascend_so order of [] up = tt
ascend_so {X} order of (x ∷ xs) up = (each xs up.0, ascend_so order of xs up.1)
  where
    each : (ys : List X) → AllByRecursion (λ y. order (of x) y ≡ Less) (map of ys) → AllByRecursion (λ y. order (of x) (of y) ≡ Less) ys
    each [] all = tt
    each (y ∷ ys) all = (all.0, each ys all.1)

of_two : (client zone sysmod : List ℕ) (row : Row) → is_of_three client zone sysmod row ≡ true → is_of_both client zone row ≡ true
of_two client zone sysmod row h =
    let first = and_parts (is_of client row) (is_named zone (column row 1) && is_named sysmod (column row 2)) h in
    let second = and_parts (is_named zone (column row 1)) (is_named sysmod (column row 2)) first.1 in
    and_from (is_of client row) (is_named zone (column row 1)) first.0 second.0

-- one more SYSMOD of a zone
pub next_row : (client zone : List ℕ) (rows : List ZoneRow) (i : ℕ) (row : ZoneRow) → AreZoneRows rows → i < length rows → row ≡ get_or rows i row
    → (stored : Stored) → list_any (is_of_three client zone row.sysmod) (coming row_table (map (zone_row client zone) (take i rows)) (going row_table (is_of_both client zone) stored)).rows ≡ false
next_row client zone rows i row are low at stored =
    gone_and_come (is_of_both client zone) (is_of_three client zone row.sysmod)
    (λ one h. of_two client zone row.sysmod one h) stored.rows (zone_row client zone) (take i rows) (λ other here h.
    let same = named other.sysmod row.sysmod (all_has IsZoneRow rows other are.each (taken_has i rows other here)).sysmod (and_parts _ _ (and_parts _ _ h).1).1 in
    none_before (λ a b. id_cmp a.sysmod b.sysmod) rows (ascend_so id_cmp (λ (r : ZoneRow). r.sysmod) rows are.ascend) i row low at other here (same_order other.sysmod row.sysmod same))

-- ---- where those of a key went, a list in order is new

pub rows_new : (client zone : List ℕ) (rows : List ZoneRow) → AreZoneRows rows → AreNewInPlace (λ row. is_of_three client zone row.sysmod) (zone_row client zone) rows (is_of_both client zone) (λ stored. stored.rows)
rows_new client zone rows are stored =
    each_new (λ row. is_of_three client zone row.sysmod) (zone_row client zone) rows (replaced (is_of_both client zone) [] stored.rows) (λ i row low at. next_row client zone rows i row are low at stored)

pub conds_new : (id : List ℕ) (conds : List CondNeed) → AllByRecursion IsCond conds → CondsAscend conds → AreNewInPlace (λ cond. is_of_three id cond.fmid cond.need) (cond_row id) conds (is_of id) (λ stored. stored.conds)
conds_new id conds ids up stored =
    each_new (λ cond. is_of_three id cond.fmid cond.need) (cond_row id) conds (replaced (is_of id) [] stored.conds) (λ i cond low at. next_cond id conds i cond ids up low at stored)
