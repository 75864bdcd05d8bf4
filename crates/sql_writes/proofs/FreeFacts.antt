-- Records under whose ids nothing stands.
use Rattle.std.proofs.Common.{◌≡◌, ◌<◌, ◌+◌, ◌++◌, ℕ, zero, suc, Bool, false, List, [], ◌∷◌, drop, get_or, length, map, take, refl, sym, ◌∙◌, ap, subst, arith}
use Rattle.std.specs.Prelude.{flat_map, fold}
use Rattle.std.specs.List.{AllByRecursion, IsDistinct, list_any}
use Rattle.std.specs.List.Sorted.{IsPermutation}
use Rattle.std.specs.Ordering.{eq_by_cmp}
use Rattle.std.specs.Cmp.{eq_by_cmp_equiv}
use Rattle.std.proofs.lemmas.Bool.{false≢true}
use Rattle.std.proofs.lemmas.List.{append-nil, take-append-drop}
use Rattle.std.proofs.lemmas.List.Sorted.{IsPermutation-sym}
use Rattle.std.proofs.lemmas.List.Sums.{fold_push}
use Rattle.std.proofs.lemmas.Map.Keys.{IsDistinct-IsPermutation, IsDistinct-from_sorted, IsDistinct-head, IsDistinct-tail}
use Rattle.catalogue.specs.Ids.{Ascend, id_cmp}
use Rattle.catalogue.specs.declared.change.Change.{Change}
use Rattle.catalogue.specs.declared.change.Change.TheVariants.{OfHold, Whole}
use Rattle.catalogue.specs.declared.sysmod.Sysmod.{Sysmod}
use Rattle.catalogue.proofs.IdFacts.{ids_total}
use Rattle.mcs_reader.specs.Id.{IsId}
use Rattle.sqlite.specs.Order.{Row}
use Rattle.sql_tables.specs.Changes.{published, replaced}
use Rattle.sql_tables.specs.Fit.{IsFitChange}
use Rattle.sql_tables.specs.Rows.{cond_row}
use Rattle.sql_tables.specs.Stored.{Stored, is_of}
use Rattle.sql_writes.specs.Records.{AreApart, AreFree, AreNewMembers, AreNewRecords, FreeIf, HasNoRest, IsApart, IsBare, NoneOf, ids_in, record_gone, record_rows, rest_count, rest_put, sups_of, with_members, with_sysmods}
use Rattle.sql_writes.specs.declared.records.SupRow.{SupRow}
use Rattle.sql_writes.specs.declared.records.SysmodRow.{SysmodRow}
use Rattle.sql_writes.proofs.AlikeFacts.{part, part_as}
use Rattle.sql_writes.proofs.BoundFacts.{one_more}
use Rattle.sql_rows.proofs.TableFacts.{none_filtered, none_gone}
use Rattle.sql_writes.proofs.LeaveFacts.{same_order}
use Rattle.sql_writes.proofs.TogetherFacts.{MakesOwn, all_gone, all_rest, cond_rows, conds_own, gone, in_turn, member_rows, members_new, members_own, none_in_both, none_made, published_in_turn, records_new, sysmods_own}

-- ---- nothing goes

gone_free : (changes : List Change) (rows : List Row) → AllByRecursion (NoneOf rows) changes → gone changes rows ≡ rows
gone_free [] rows none = refl
gone_free (Whole sysmod ∷ changes) rows none = ap (gone changes) (sym (none_gone (is_of sysmod.id) rows none.0)) ∙ gone_free changes rows none.1
gone_free (OfHold change ∷ changes) rows none = gone_free changes rows none.1

pub spared : (changes : List Change) (stored : Stored) → AreFree changes stored → fold record_gone stored changes ≡ stored
spared changes stored free =
    all_gone changes stored ∙ (λ i. record stored { sysmods = gone_free changes stored.sysmods free.sysmods i; sups = gone_free changes stored.sups free.sups i })

-- and what comes is new
pub free_new : (changes : List Change) (sups : List SupRow) → AllByRecursion IsFitChange changes → sups ≡ flat_map sups_of changes → (stored : Stored) → AreFree changes stored
    → AreNewRecords changes stored.sysmods × AreNewMembers sups stored.sups
free_new changes sups fit are stored free = (
  records_new changes free.apart stored.sysmods free.sysmods,
  subst (λ (rows : List SupRow). AreNewMembers rows stored.sups) (sym are) (members_new changes free.apart fit stored.sups free.sups),
)

-- ---- after some of them came, nothing stands of the others

after_one : (make : Change → List Row) → MakesOwn make → (sysmod : Sysmod) (changes : List Change) → AllByRecursion (IsApart sysmod.id) changes → (rows : List Row) → list_any (is_of sysmod.id) rows ≡ false
    → AllByRecursion (NoneOf rows) changes → AllByRecursion (NoneOf (replaced (is_of sysmod.id) (make (Whole sysmod)) rows)) changes
after_one make makes sysmod changes apart rows free none =
    subst (λ left. AllByRecursion (NoneOf (left ++ make (Whole sysmod))) changes) (sym (none_filtered (is_of sysmod.id) rows free))
    (none_in_both changes rows (make (Whole sysmod)) none (none_made make makes sysmod changes apart))

after_some : (make : Change → List Row) → MakesOwn make → (xs ys : List Change) → AreApart (xs ++ ys) → (rows : List Row) → AllByRecursion (NoneOf rows) (xs ++ ys) → AllByRecursion (NoneOf (in_turn make xs rows)) ys
after_some make makes [] ys apart rows none = none
after_some make makes (Whole sysmod ∷ xs) ys apart rows none =
    after_some make makes xs ys apart.1 (replaced (is_of sysmod.id) (make (Whole sysmod)) rows) (after_one make makes sysmod (xs ++ ys) apart.0 rows none.0 none.1)
after_some make makes (OfHold change ∷ xs) ys apart rows none = after_some make makes xs ys apart rows none.1

apart_left : (xs ys : List Change) → AreApart (xs ++ ys) → AreApart ys
apart_left [] ys apart = apart
apart_left (Whole sysmod ∷ xs) ys apart = apart_left xs ys apart.1
apart_left (OfHold change ∷ xs) ys apart = apart_left xs ys apart

all_first : {X : Type 0} (P : X → Type 0) (xs ys : List X) → AllByRecursion P (xs ++ ys) → AllByRecursion P xs
all_first P [] ys all = tt
all_first P (x ∷ xs) ys all = (all.0, all_first P xs ys all.1)

apart_first : (xs ys : List Change) → AreApart (xs ++ ys) → AreApart xs
apart_first [] ys apart = tt
apart_first (Whole sysmod ∷ xs) ys apart = (all_first (IsApart sysmod.id) xs ys apart.0, apart_first xs ys apart.1)
apart_first (OfHold change ∷ xs) ys apart = apart_first xs ys apart

free_after : (xs ys : List Change) (stored : Stored) → AreFree (xs ++ ys) stored → AreFree ys (fold published stored xs)
free_after xs ys stored free =
    subst (AreFree ys) (sym (published_in_turn xs stored)) (record {
      apart = apart_left xs ys free.apart;
      sysmods = after_some record_rows sysmods_own xs ys free.apart stored.sysmods free.sysmods;
      sups = after_some member_rows members_own xs ys free.apart stored.sups free.sups;
      conds = after_some cond_rows conds_own xs ys free.apart stored.conds free.conds;
    })

free_first : (xs ys : List Change) (stored : Stored) → AreFree (xs ++ ys) stored → AreFree xs stored
free_first xs ys stored free = record {
  apart = apart_first xs ys free.apart;
  sysmods = all_first (NoneOf stored.sysmods) xs ys free.sysmods;
  sups = all_first (NoneOf stored.sups) xs ys free.sups;
  conds = all_first (NoneOf stored.conds) xs ys free.conds;
}

-- of those that come next
pub free_next : (found : Bool) (at count : ℕ) (all : List Change) (stored : Stored) → FreeIf found all stored → FreeIf found (part at count all) (fold published stored (take at all))
free_next found at count all stored free is =
    let then = fold published stored (take at all) in
    let later = free_after (take at all) (drop at all) stored (subst (λ (changes : List Change). AreFree changes stored) (sym (take-append-drop at all)) (free is)) in
    subst (λ (changes : List Change). AreFree changes then) (part_as at count all)
    (free_first (take count (drop at all)) (drop count (drop at all)) then
    (subst (λ (changes : List Change). AreFree changes then) (sym (take-append-drop count (drop at all))) later))

-- ---- a record that requires nothing under a condition leaves nothing to put

next_is : {X : Type 0} (P : X → Type 0) (xs : List X) (i : ℕ) (x : X) → i < length xs → x ≡ get_or xs i x → AllByRecursion P (drop i xs) → P x
next_is P [] i x low at all = absurd (omega (arith, low))
next_is P (y ∷ ys) zero x low at all = subst P (sym at) all.0
next_is P (y ∷ ys) (suc i) x low at all = next_is P ys i x (omega (arith, low)) at all

nothing_put : (change : Change) (stored : Stored) → HasNoRest change → NoneOf stored.conds change → rest_put stored change ≡ stored
nothing_put (Whole sysmod) stored bare none =
    ap (λ rows. record stored { conds = rows })
    (ap (λ conds. replaced (is_of sysmod.id) (map (cond_row sysmod.id) conds) stored.conds) bare ∙ sym (none_gone (is_of sysmod.id) stored.conds none))
nothing_put (OfHold change) stored bare none = absurd bare

pub rest_skipped : (first : Stored → Stored) → ((stored : Stored) → (first stored).conds ≡ stored.conds) → (changes : List Change) (i : ℕ) (one : Change) → i < length changes → one ≡ get_or changes i one → HasNoRest one
    → (stored : Stored) → AreFree changes stored → fold rest_put (first stored) (take i changes) ≡ fold rest_put (first stored) (take (i + 1) changes)
rest_skipped first same changes i one low at bare stored free =
    let base = first stored in
    let here = fold rest_put base (take i changes) in
    let whole = take-append-drop i changes in
    let none : AllByRecursion (NoneOf (in_turn cond_rows (take i changes) base.conds)) (drop i changes) =
    after_some cond_rows conds_own (take i changes) (drop i changes) (subst AreApart (sym whole) free.apart) base.conds
    (subst (λ (all : List Change). AllByRecursion (NoneOf base.conds) all) (sym whole) (subst (λ rows. AllByRecursion (NoneOf rows) changes) (sym (same stored)) free.conds)) in
    let none_here : NoneOf here.conds one = subst (λ (left : Stored). NoneOf left.conds one) (sym (all_rest (take i changes) base)) (next_is (NoneOf (in_turn cond_rows (take i changes) base.conds)) changes i one low at none) in
    sym (nothing_put one here bare none_here)
    ∙ sym (fold_push rest_put base (take i changes) one)
    ∙ ap (fold rest_put base) (one_more changes i one low at)

pub conds_kept : (changes : List Change) (sups : List SupRow) (rows : List SysmodRow) (stored : Stored) → (with_members sups (with_sysmods rows (fold record_gone stored changes))).conds ≡ stored.conds
conds_kept changes sups rows stored = ap (λ (left : Stored). left.conds) (all_gone changes stored)

pub none_counted : (change : Change) → HasNoRest change → rest_count change ≡ 0
none_counted (Whole sysmod) bare = ap length bare
none_counted (OfHold change) bare = absurd bare

-- ---- no two are of one id

abbrev same_ids : List ℕ → List ℕ → Bool
same_ids = eq_by_cmp id_cmp

others_apart : (id : List ℕ) → IsId id → (changes : List Change) → AllByRecursion (λ other. same_ids id other ≡ false) (flat_map ids_in changes) → AllByRecursion (IsApart id) changes
others_apart id is [] others = tt
others_apart id is (Whole sysmod ∷ changes) others = ((is, λ same. false≢true (sym others.0 ∙ same_order id sysmod.id same)), others_apart id is changes others.1)
others_apart id is (OfHold change ∷ changes) others = (tt, others_apart id is changes others)

each_apart : (changes : List Change) → AllByRecursion IsId (flat_map ids_in changes) → IsDistinct same_ids (flat_map ids_in changes) → AreApart changes
each_apart [] are distinct = tt
each_apart (Whole sysmod ∷ changes) are distinct =
    (others_apart sysmod.id are.0 changes (IsDistinct-head same_ids sysmod.id (flat_map ids_in changes) distinct), each_apart changes are.1 (IsDistinct-tail same_ids sysmod.id (flat_map ids_in changes) distinct))
each_apart (OfHold change ∷ changes) are distinct = each_apart changes are distinct

pub apart_by_ids : (changes : List Change) (sorted : List (List ℕ)) → AllByRecursion IsId (flat_map ids_in changes) → IsPermutation (flat_map ids_in changes) sorted → Ascend sorted → AreApart changes
apart_by_ids changes sorted are permuted up =
    each_apart changes are
    (IsDistinct-IsPermutation same_ids ((eq_by_cmp_equiv ids_total).symm) sorted (flat_map ids_in changes) (IsPermutation-sym (flat_map ids_in changes) sorted permuted)
    (IsDistinct-from_sorted id_cmp sorted up))

pub longer_ids : (all : List Change) (i : ℕ) (one : Change) (before after : List (List ℕ)) → i < length all → one ≡ get_or all i one → before ≡ flat_map ids_in (take i all) → after ≡ before ++ ids_in one
    → after ≡ flat_map ids_in (take (i + 1) all)
longer_ids all i one before after low at was is =
    is ∙ ap (λ ids. ids ++ ids_in one) was ∙ with_one (take i all) ∙ ap (flat_map ids_in) (one_more all i one low at)
  where
    with_one : (xs : List Change) → flat_map ids_in xs ++ ids_in one ≡ flat_map ids_in (xs ++ one ∷ [])
    with_one [] = sym (append-nil (ids_in one))
    with_one (Whole sysmod ∷ xs) = ap (λ ids. sysmod.id ∷ ids) (with_one xs)
    with_one (OfHold change ∷ xs) = with_one xs

pub more_ids : (all : List Change) (i : ℕ) (one : Change) → i < length all → one ≡ get_or all i one → AllByRecursion IsId (flat_map ids_in (take i all)) → AllByRecursion IsId (ids_in one)
    → AllByRecursion IsId (flat_map ids_in (take (i + 1) all))
more_ids all i one low at before here = subst (λ (some : List Change). AllByRecursion IsId (flat_map ids_in some)) (one_more all i one low at) (with_one (take i all) before)
  where
    with_one : (xs : List Change) → AllByRecursion IsId (flat_map ids_in xs) → AllByRecursion IsId (flat_map ids_in (xs ++ one ∷ []))
    with_one [] are = subst (AllByRecursion IsId) (sym (append-nil (ids_in one))) here
    with_one (Whole sysmod ∷ xs) are = (are.0, with_one xs are.1)
    with_one (OfHold change ∷ xs) are = with_one xs are

-- ---- where nothing is catalogued

none_in_none : (rows : List Row) (changes : List Change) → rows ≡ [] → AllByRecursion (NoneOf rows) changes
none_in_none rows [] none = tt
none_in_none rows (Whole sysmod ∷ changes) none = (ap (list_any (is_of sysmod.id)) none, none_in_none rows changes none)
none_in_none rows (OfHold change ∷ changes) none = (tt, none_in_none rows changes none)

pub free_where_bare : (changes : List Change) (stored : Stored) → IsBare stored → AreApart changes → AreFree changes stored
free_where_bare changes stored bare apart = record {
  apart = apart;
  sysmods = none_in_none stored.sysmods changes bare.0;
  sups = none_in_none stored.sups changes bare.1.0;
  conds = none_in_none stored.conds changes bare.1.1;
}
