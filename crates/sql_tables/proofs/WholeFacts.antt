-- Each change leaves rows whole.
use Rattle.std.proofs.Common.{◌≡◌, ◌≢◌, ◌<◌, ◌+◌, ℕ, zero, suc, arith, Bool, true, false, cond, ◌&&◌, ◌||◌, List, [], ◌∷◌, ◌++◌, refl, sym, ◌∙◌, ap}
use Rattle.std.specs.Prelude.{drop, filter, fold, map, not, take, Some}
use Rattle.std.specs.List.{AllByRecursion, list_any, list_all}
use Rattle.std.specs.List.Sorted.{IsStrictlySortedBy}
use Rattle.std.specs.declared.cmp.Ordering.TheVariants.{Less}
use Rattle.lemmas.proofs.ListFacts.{all_append, all_so}
use Rattle.mcs_reader.specs.Id.{IsId}
use Rattle.holddata.specs.declared.hold.HoldChange.TheVariants.{Put, Release}
use Rattle.holddata.specs.declared.key.HoldKey.{HoldKey}
use Rattle.catalogue.specs.Ids.{id_cmp, same_id}
use Rattle.catalogue.specs.declared.change.Change.{Change}
use Rattle.catalogue.specs.declared.change.Change.TheVariants.{Whole, OfHold}
use Rattle.catalogue.proofs.IdFacts.{apart, itself}
use Rattle.zone_lists.specs.Pattern.{is_pattern}
use Rattle.zone_lists.specs.ZoneList.{RowsAscend}
use Rattle.zone_lists.specs.declared.zones.ZoneRow.{ZoneRow}
use Rattle.bureau_store.specs.Effect.{Effect, publication, zone_put, zone_dropped, received_put, patterns_put}
use Rattle.bureau_store.specs.Tables.{LastChange}
use Rattle.bureau_store.specs.declared.caller.Caller.{Caller}
use Rattle.bureau_store.specs.declared.caller.Caller.TheVariants.{Publisher, Client}
use Rattle.bureau_store.specs.declared.caller.CallerRow.{CallerRow}
use Rattle.sqlite_value.specs.Order.{Row, column}
use Rattle.sql_tables.specs.Changes.{client_changed, going, instead, is_kind, is_under, published, replaced, stored_after, with_callers, with_head, with_last, without_caller}
use Rattle.sql_tables.specs.Fit.{CanBeWritten, IsCond, IsFit, IsFitChange, IsHold, IsRecord, IsZoneRow}
use Rattle.sql_tables.specs.Rows.{caller_row, cond_row, head_row, hold_row, sup_row, sysmod_row, zone_row}
use Rattle.sql_tables.specs.Stored.{Stored, change_table, head_table, is_named, is_of, is_of_both, name_of, opened, row_table}
use Rattle.sql_tables.specs.Values.{id_in, id_value}
use Rattle.sql_tables.specs.Whole.{AreRowsOf, HaveOwnKeys, Head, IsCondition, IsHead, IsMember, IsWhole, IsZoneSysmod, condition_row, member_row, row_of_head, row_of_zone_sysmod}
use Rattle.sql_tables.proofs.ClientFacts.{made_here}
use Rattle.sql_tables.proofs.ContentFacts.{key_itself, row_under}
use Rattle.sql_tables.proofs.ValueFacts.{id_again, named_itself}

-- ---- all of some rows

pub all_filter : {X : Type 0} (P : X → Type 0) (test : X → Bool) (xs : List X) → AllByRecursion P xs → AllByRecursion P (filter test xs)
all_filter P test [] all = tt
all_filter P test (x ∷ xs) all = by (test x) (all_filter P test xs all.1)
  where
    by : (b : Bool) → AllByRecursion P (filter test xs) → AllByRecursion P (cond b (x ∷ filter test xs) (filter test xs))
    by true rest = (all.0, rest)
    by false rest = rest

pub all_map : {X Y : Type 0} (P : Y → Type 0) (f : X → Y) (xs : List X) → AllByRecursion (λ x. P (f x)) xs → AllByRecursion P (map f xs)
all_map P f [] all = tt
all_map P f (x ∷ xs) all = (all.0, all_map P f xs all.1)

-- what a filter keeps passes its test
all_kept : (P : Row → Type 0) (test : Row → Bool) → ((row : Row) → test row ≡ true → P row) → (rows : List Row) → AllByRecursion P (filter test rows)
all_kept P test step [] = tt
all_kept P test step (row ∷ rows) = by (test row) refl (all_kept P test step rows)
  where
    by : (b : Bool) → test row ≡ b → AllByRecursion P (filter test rows) → AllByRecursion P (cond b (row ∷ filter test rows) (filter test rows))
    by true at rest = (step row at, rest)
    by false at rest = rest

written_again : {X : Type 0} (row_of : X → Row) (Fits : X → Type 0) (test : Row → Bool) (news rows : List Row)
    → AreRowsOf row_of Fits rows → AreRowsOf row_of Fits news → AreRowsOf row_of Fits (replaced test news rows)
written_again row_of Fits test news rows olds new =
    all_append (λ row. (x : _) × Fits x × (row ≡ row_of x)) (filter (λ row. not (test row)) rows) news
    (all_filter (λ row. (x : _) × Fits x × (row ≡ row_of x)) (λ row. not (test row)) rows olds) new

-- ---- keys

pub own_filtered : (columns : ℕ) (test : Row → Bool) (rows : List Row) → HaveOwnKeys columns rows → HaveOwnKeys columns (filter test rows)
own_filtered columns test [] own = tt
own_filtered columns test (row ∷ rows) own = by (test row) (own_filtered columns test rows own.1)
  where
    by : (b : Bool) → HaveOwnKeys columns (filter test rows) → HaveOwnKeys columns (cond b (row ∷ filter test rows) (filter test rows))
    by true rest = (all_filter (λ other. take columns row ≢ take columns other) test rows own.0, rest)
    by false rest = rest

own_appended : (columns : ℕ) (rows news : List Row) → HaveOwnKeys columns rows → HaveOwnKeys columns news
    → AllByRecursion (λ row. AllByRecursion (λ new. take columns row ≢ take columns new) news) rows → HaveOwnKeys columns (rows ++ news)
own_appended columns [] news own new differ = new
own_appended columns (row ∷ rows) news own new differ = (
  all_append (λ other. take columns row ≢ take columns other) rows news own.0 differ.0,
  own_appended columns rows news own.1 new differ.1,
)

-- rows that a test fails, and rows that it passes, where it looks at the key alone
differ_by : (columns : ℕ) (test : Row → Bool) → ((a b : Row) → take columns a ≡ take columns b → test a ≡ test b) → (row : Row) → test row ≡ false
    → (news : List Row) → AllByRecursion (λ new. test new ≡ true) news → AllByRecursion (λ new. take columns row ≢ take columns new) news
differ_by columns test alike row fails news pass =
    all_so (λ new. test new ≡ true) (λ new. take columns row ≢ take columns new) (λ new at same. let e : false ≡ true = sym fails ∙ alike row new same ∙ at in absurd (cc)) news pass

own_replaced : (columns : ℕ) (test : Row → Bool) → ((a b : Row) → take columns a ≡ take columns b → test a ≡ test b) → (news rows : List Row)
    → AllByRecursion (λ new. test new ≡ true) news → HaveOwnKeys columns news → HaveOwnKeys columns rows → HaveOwnKeys columns (replaced test news rows)
own_replaced columns test alike news rows pass new own =
    own_appended columns (filter (λ row. not (test row)) rows) news (own_filtered columns (λ row. not (test row)) rows own) new
    (all_kept (λ row. AllByRecursion (λ n. take columns row ≢ take columns n) news) (λ row. not (test row)) (λ row at. differ_by columns test alike row (off (test row) at) news pass) rows)
  where
    off : (b : Bool) → not b ≡ true → b ≡ false
    off true h = cc
    off false h = refl

-- which columns a key has
in_key : (columns at : ℕ) → at < columns → (row : Row) → column (take columns row) at ≡ column row at
in_key zero at low row = absurd (omega (arith, low))
in_key (suc columns) at low [] = refl
in_key (suc columns) zero low (a ∷ row) = refl
in_key (suc columns) (suc at) low (a ∷ row) = in_key columns at (omega (arith, low)) row

same_column : (columns at : ℕ) → at < columns → (a b : Row) → take columns a ≡ take columns b → column a at ≡ column b at
same_column columns at low a b same = sym (in_key columns at low a) ∙ ap (λ key. column key at) same ∙ in_key columns at low b

by_id : (id : List ℕ) (a b : Row) → take 1 a ≡ take 1 b → is_of id a ≡ is_of id b
by_id id a b same = ap (is_named id) (same_column 1 0 (omega arith) a b same)

by_zone : (client zone : List ℕ) (a b : Row) → take 2 a ≡ take 2 b → is_of_both client zone a ≡ is_of_both client zone b
by_zone client zone a b same =
    ap (λ v. is_named client v && is_named zone (column a 1)) (same_column 2 0 (omega arith) a b same)
    ∙ ap (λ v. is_named client (column b 0) && is_named zone v) (same_column 2 1 (omega arith) a b same)

by_zone_sysmod : (client zone : List ℕ) (a b : Row) → take 3 a ≡ take 3 b → is_of_both client zone a ≡ is_of_both client zone b
by_zone_sysmod client zone a b same =
    ap (λ v. is_named client v && is_named zone (column a 1)) (same_column 3 0 (omega arith) a b same)
    ∙ ap (λ v. is_named client (column b 0) && is_named zone v) (same_column 3 1 (omega arith) a b same)

by_hold : (key : HoldKey) (a b : Row) → take 3 a ≡ take 3 b → is_under key a ≡ is_under key b
by_hold key a b same =
    ap (λ v. is_named key.sysmod v && (is_kind key.kind (column a 1) && is_named key.reason (column a 2))) (same_column 3 0 (omega arith) a b same)
    ∙ ap (λ v. is_named key.sysmod (column b 0) && (is_kind key.kind v && is_named key.reason (column a 2))) (same_column 3 1 (omega arith) a b same)
    ∙ ap (λ v. is_named key.sysmod (column b 0) && (is_kind key.kind (column b 1) && is_named key.reason v)) (same_column 3 2 (omega arith) a b same)

-- ---- other rows of one table

-- nothing is said of last changes and of received lists
beside_whole : (changes received : List Row) (stored : Stored) → IsWhole stored → IsWhole (record stored { changes = changes; received = received })
beside_whole changes received stored whole = record {
  callers = whole.callers;
  sysmods = whole.sysmods;
  sysmod_keys = whole.sysmod_keys;
  sups = whole.sups;
  conds = whole.conds;
  holds = whole.holds;
  hold_keys = whole.hold_keys;
  heads = whole.heads;
  head_keys = whole.head_keys;
  rows = whole.rows;
  row_keys = whole.row_keys;
}

heads_whole : (heads : List Row) (stored : Stored) → AreRowsOf row_of_head IsHead heads → HaveOwnKeys 2 heads → IsWhole stored → IsWhole (head_table.with_rows heads stored)
heads_whole heads stored fit own whole = record {
  callers = whole.callers;
  sysmods = whole.sysmods;
  sysmod_keys = whole.sysmod_keys;
  sups = whole.sups;
  conds = whole.conds;
  holds = whole.holds;
  hold_keys = whole.hold_keys;
  heads = fit;
  head_keys = own;
  rows = whole.rows;
  row_keys = whole.row_keys;
}

-- heads that pass a test of their keys go, and these come
heads_replaced : (test : Row → Bool) → ((a b : Row) → take 2 a ≡ take 2 b → test a ≡ test b) → (news : List Row) (stored : Stored)
    → AreRowsOf row_of_head IsHead news → AllByRecursion (λ row. test row ≡ true) news → HaveOwnKeys 2 news → IsWhole stored → IsWhole (instead head_table test news stored)
heads_replaced test alike news stored fit pass own whole =
    heads_whole (replaced test news stored.heads) stored (written_again row_of_head IsHead test news stored.heads whole.heads fit) (own_replaced 2 test alike news stored.heads pass own whole.head_keys) whole

-- so with the rows of zones
rows_replaced : (test : Row → Bool) → ((a b : Row) → take 3 a ≡ take 3 b → test a ≡ test b) → (news : List Row) (stored : Stored)
    → AreRowsOf row_of_zone_sysmod IsZoneSysmod news → AllByRecursion (λ row. test row ≡ true) news → HaveOwnKeys 3 news → IsWhole stored → IsWhole (instead row_table test news stored)
rows_replaced test alike news stored fit pass own whole = record {
  callers = whole.callers;
  sysmods = whole.sysmods;
  sysmod_keys = whole.sysmod_keys;
  sups = whole.sups;
  conds = whole.conds;
  holds = whole.holds;
  hold_keys = whole.hold_keys;
  heads = whole.heads;
  head_keys = whole.head_keys;
  rows = written_again row_of_zone_sysmod IsZoneSysmod test news stored.rows whole.rows fit;
  row_keys = own_replaced 3 test alike news stored.rows pass own whole.row_keys;
}

-- ---- a publication

-- the holds under a key go, and others under it come
holds_written : (key : HoldKey) (news : List Row) (stored : Stored) → AreRowsOf hold_row IsHold news → AllByRecursion (λ row. is_under key row ≡ true) news → HaveOwnKeys 3 news
    → IsWhole stored → IsWhole (record stored { holds = replaced (is_under key) news stored.holds })
holds_written key news stored fit under own whole = record {
  callers = whole.callers;
  sysmods = whole.sysmods;
  sysmod_keys = whole.sysmod_keys;
  sups = whole.sups;
  conds = whole.conds;
  holds = written_again hold_row IsHold (is_under key) news stored.holds whole.holds fit;
  hold_keys = own_replaced 3 (is_under key) (by_hold key) news stored.holds under own whole.hold_keys;
  heads = whole.heads;
  head_keys = whole.head_keys;
  rows = whole.rows;
  row_keys = whole.row_keys;
}

one_whole : (change : Change) (stored : Stored) → IsFitChange change → IsWhole stored → IsWhole (published stored change)
one_whole (Whole x) stored fit whole = record {
  callers = whole.callers;
  sysmods = written_again sysmod_row IsRecord (is_of x.id) (sysmod_row x ∷ []) stored.sysmods whole.sysmods ((x, fit, refl), tt);
  sysmod_keys = own_replaced 1 (is_of x.id) (by_id x.id) (sysmod_row x ∷ []) stored.sysmods (named_itself x.id fit.id, tt) (tt, tt) whole.sysmod_keys;
  sups = written_again member_row IsMember (is_of x.id) (map (sup_row x.id) x.sup) stored.sups whole.sups
      (listed member_row IsMember IsId (λ member. record { id = x.id; one = member }) (λ member is. (fit.id, is)) x.sup fit.sup);
  conds = written_again condition_row IsCondition (is_of x.id) (map (cond_row x.id) x.conds) stored.conds whole.conds
      (listed condition_row IsCondition IsCond (λ cond. record { id = x.id; one = cond }) (λ cond is. (fit.id, is)) x.conds fit.conds);
  holds = whole.holds;
  hold_keys = whole.hold_keys;
  heads = whole.heads;
  head_keys = whole.head_keys;
  rows = whole.rows;
  row_keys = whole.row_keys;
}
  where
    listed : {X Y : Type 0} (row_of : Y → Row) (Fits : Y → Type 0) (Is : X → Type 0) (make : X → Y) → ((x : X) → Is x → Fits (make x)) → (xs : List X) → AllByRecursion Is xs
        → AreRowsOf row_of Fits (map (λ x. row_of (make x)) xs)
    listed row_of Fits Is make fits [] all = tt
    listed row_of Fits Is make fits (x ∷ xs) all = ((make x, fits x all.0, refl), listed row_of Fits Is make fits xs all.1)
one_whole (OfHold (Put hold)) stored fit whole =
    holds_written hold.key (hold_row hold ∷ []) stored ((hold, fit, refl), tt) (row_under hold fit hold.key ∙ key_itself hold.key, tt) (tt, tt) whole
one_whole (OfHold (Release key)) stored fit whole = holds_written key [] stored tt tt tt whole

all_whole : (changes : List Change) (stored : Stored) → AllByRecursion IsFitChange changes → IsWhole stored → IsWhole (fold published stored changes)
all_whole [] stored fit whole = whole
all_whole (change ∷ changes) stored fit whole = all_whole changes (published stored change) fit.1 (one_whole change stored fit.0 whole)

-- ---- a client's changes

module _ (client : List ℕ) (is_client : IsId client) where
  head_written : (zone : List ℕ) (patterns : List (List ℕ)) → IsId zone → list_all is_pattern patterns ≡ true → AreRowsOf row_of_head IsHead (head_row client zone patterns ∷ [])
  head_written zone patterns is fit = ((record { client = client; zone = zone; patterns = patterns }, (is_client, is, fit), refl), tt)

  -- rows none of which passes a test
  none_pass : (test : Row → Bool) (rows : List Row) → list_any test rows ≡ false → AllByRecursion (λ row. test row ≡ false) rows
  none_pass test [] none = tt
  none_pass test (row ∷ rows) none = by (test row) refl none (none_pass test rows)
    where
      by : (b : Bool) → test row ≡ b → (b || list_any test rows) ≡ false → (list_any test rows ≡ false → AllByRecursion (λ r. test r ≡ false) rows)
          → AllByRecursion (λ r. test r ≡ false) (row ∷ rows)
      by true at h rest = cc
      by false at h rest = (at, rest h)

  -- a zone has a head
  headed : (zone : List ℕ) (stored : Stored) → IsId zone → IsWhole stored → IsWhole (record stored { heads = with_head client zone stored.heads })
  headed zone stored is whole = by (list_any (is_of_both client zone) stored.heads) refl
    where
      by : (b : Bool) → list_any (is_of_both client zone) stored.heads ≡ b → IsWhole (record stored { heads = cond b stored.heads (stored.heads ++ head_row client zone [] ∷ []) })
      by true at = whole
      by false at =
          heads_whole (stored.heads ++ head_row client zone [] ∷ []) stored
          (all_append (λ row. (x : Head) × IsHead x × (row ≡ row_of_head x)) stored.heads (head_row client zone [] ∷ []) whole.heads (head_written zone [] is refl))
          (own_appended 2 stored.heads (head_row client zone [] ∷ []) whole.head_keys (tt, tt)
          (all_so (λ row. is_of_both client zone row ≡ false) (λ row. AllByRecursion (λ new. take 2 row ≢ take 2 new) (head_row client zone [] ∷ []))
          (λ row fails. differ_by 2 (is_of_both client zone) (by_zone client zone) row fails (head_row client zone [] ∷ []) (made_here client zone is_client is (drop 2 (head_row client zone [])), tt)) stored.heads
          (none_pass (is_of_both client zone) stored.heads at)))
          whole

  zone_sysmods_written : (zone : List ℕ) (rows : List ZoneRow) → IsId zone → AllByRecursion IsZoneRow rows → AreRowsOf row_of_zone_sysmod IsZoneSysmod (map (zone_row client zone) rows)
  zone_sysmods_written zone [] is all = tt
  zone_sysmods_written zone (row ∷ rows) is all = ((record { client = client; zone = zone; row = row }, (is_client, is, all.0), refl), zone_sysmods_written zone rows is all.1)

  -- SYSMODs that ascend have keys of their own
  later_differ : (zone : List ℕ) (row : ZoneRow) (rows : List ZoneRow) → IsZoneRow row → AllByRecursion IsZoneRow rows
      → AllByRecursion (λ k. id_cmp row.sysmod k ≡ Less) (map (λ (r : ZoneRow). r.sysmod) rows)
      → AllByRecursion (λ other. take 3 (zone_row client zone row) ≢ take 3 other) (map (zone_row client zone) rows)
  later_differ zone row [] is all below = tt
  later_differ zone row (next ∷ rows) is all below = (one, later_differ zone row rows is all.1 below.1)
    where
      one : take 3 (zone_row client zone row) ≢ take 3 (zone_row client zone next)
      one same =
          let third : id_value row.sysmod ≡ id_value next.sysmod = ap (λ key. column key 2) same in
          let e : Some row.sysmod ≡ Some next.sysmod = sym (id_again row.sysmod is.sysmod) ∙ ap id_in third ∙ id_again next.sysmod all.0.sysmod in
          let k : row.sysmod ≡ next.sysmod = cc in
          let f : true ≡ false = sym (itself row.sysmod) ∙ ap (same_id row.sysmod) k ∙ apart row.sysmod next.sysmod below.0 in absurd (cc)

  put_own : (zone : List ℕ) (rows : List ZoneRow) → AllByRecursion IsZoneRow rows → RowsAscend rows → HaveOwnKeys 3 (map (zone_row client zone) rows)
  unfolding IsStrictlySortedBy
  put_own zone [] all ascend = tt
  put_own zone (row ∷ rows) all ascend = (later_differ zone row rows all.0 all.1 ascend.0, put_own zone rows all.1 ascend.1)

  put_here : (zone : List ℕ) (rows : List ZoneRow) → IsId zone → AllByRecursion (λ new. is_of_both client zone new ≡ true) (map (zone_row client zone) rows)
  put_here zone [] is = tt
  put_here zone (row ∷ rows) is = (made_here client zone is_client is (drop 2 (zone_row client zone row)), put_here zone rows is)

  client_whole : (e : Effect) (stored : Stored) → IsFit e → IsWhole stored → IsWhole (client_changed client e stored)
  client_whole (publication changes) stored fit whole = whole
  client_whole (zone_put zone news) stored fit whole =
      rows_replaced (is_of_both client zone) (by_zone_sysmod client zone) (map (zone_row client zone) news) (record stored { heads = with_head client zone stored.heads })
      (zone_sysmods_written zone news fit.0 fit.1.each) (put_here zone news fit.0) (put_own zone news fit.1.each fit.1.ascend) (headed zone stored fit.0 whole)
  client_whole (zone_dropped zone) stored fit whole =
      rows_replaced (is_of_both client zone) (by_zone_sysmod client zone) [] (going head_table (is_of_both client zone) stored) tt tt tt
      (heads_replaced (is_of_both client zone) (by_zone client zone) [] stored tt tt tt whole)
  client_whole (received_put ids) stored fit whole = beside_whole stored.changes (client_changed client (received_put ids) stored).received stored whole
  client_whole (patterns_put zone patterns) stored fit whole =
      heads_replaced (is_of_both client zone) (by_zone client zone) (head_row client zone patterns ∷ []) stored
      (head_written zone patterns fit.0 fit.1) (made_here client zone is_client fit.0 (drop 2 (head_row client zone patterns)), tt) (tt, tt) whole

-- ---- each change

pub whole_after : (caller : Caller) (e : Effect) (last : LastChange) (stored : Stored) → CanBeWritten caller e → IsWhole stored → IsWhole (stored_after caller e last stored)
whole_after Publisher (publication changes) last stored can whole =
    let left = fold published stored changes in
    beside_whole (with_last (name_of Publisher) last left.changes) left.received left (all_whole changes stored can.fit whole)
whole_after Publisher (zone_put zone rows) last stored can whole = absurd can.own
whole_after Publisher (zone_dropped zone) last stored can whole = absurd can.own
whole_after Publisher (received_put ids) last stored can whole = absurd can.own
whole_after Publisher (patterns_put zone patterns) last stored can whole = absurd can.own
whole_after (Client client) e last stored can whole =
    let left = client_changed client e stored in
    beside_whole (with_last (name_of (Client client)) last left.changes) left.received left (client_whole client can.named.0 e stored can.fit whole)

-- before the first change
pub whole_opened : (rows : List CallerRow) → AllByRecursion (λ (row : CallerRow). IsId row.name) rows → IsWhole (opened (map caller_row rows))
whole_opened rows all = record {
  callers = callers rows all;
  sysmods = tt;
  sysmod_keys = tt;
  sups = tt;
  conds = tt;
  holds = tt;
  hold_keys = tt;
  heads = tt;
  head_keys = tt;
  rows = tt;
  row_keys = tt;
}
  where
    callers : (them : List CallerRow) → AllByRecursion (λ (row : CallerRow). IsId row.name) them → AreRowsOf caller_row (λ (caller : CallerRow). IsId caller.name) (map caller_row them)
    callers [] h = tt
    callers (caller ∷ them) h = ((caller, h.0, refl), callers them h.1)

-- ---- other callers

by_first : (columns : ℕ) (name : List ℕ) (a b : Row) → take (1 + columns) a ≡ take (1 + columns) b → is_of name a ≡ is_of name b
by_first columns name a b same = ap (is_named name) (same_column (1 + columns) 0 (omega arith) a b same)

whole_without : (name : List ℕ) (stored : Stored) → IsWhole stored → IsWhole (without_caller stored name)
whole_without name stored whole =
    let unchanged = going change_table (is_of name) stored in
    let unheaded = going head_table (is_of name) unchanged in
    let left = going row_table (is_of name) unheaded in
    beside_whole left.changes (replaced (is_of name) [] left.received) left
    (rows_replaced (is_of name) (by_first 2 name) [] unheaded tt tt tt
    (heads_replaced (is_of name) (by_first 1 name) [] unchanged tt tt tt
    (beside_whole (replaced (is_of name) [] stored.changes) stored.received stored whole)))

all_without : (names : List (List ℕ)) (stored : Stored) → IsWhole stored → IsWhole (fold without_caller stored names)
all_without [] stored whole = whole
all_without (name ∷ names) stored whole = all_without names (without_caller stored name) (whole_without name stored whole)

pub whole_with_callers : (names : List (List ℕ)) (rows : List CallerRow) (stored : Stored) → AllByRecursion (λ (row : CallerRow). IsId row.name) rows → IsWhole stored
    → IsWhole (with_callers names rows stored)
whole_with_callers names rows stored all whole =
    let left = all_without names stored whole in
    record {
      callers = (whole_opened rows all).callers;
      sysmods = left.sysmods;
      sysmod_keys = left.sysmod_keys;
      sups = left.sups;
      conds = left.conds;
      holds = left.holds;
      hold_keys = left.hold_keys;
      heads = left.heads;
      head_keys = left.head_keys;
      rows = left.rows;
      row_keys = left.row_keys;
    }
