-- Rows with rowids that rise: what a deletion by rowids leaves, and where a row goes whose rowid is chosen.
use Rattle.std.proofs.Common.{◌≡◌, ℕ, zero, suc, ℤ, pos, ◌+ℤ◌, Bool, true, false, cond, ◌||◌, List, [], ◌∷◌, ◌++◌, refl, sym, ◌∙◌, ap, arith, IsTrue, Less, int_cmp}
use Rattle.std.specs.Prelude.{filter, fold, length, map, not}
use Rattle.std.specs.List.{AllByRecursion, list_any}
use Rattle.std.specs.List.Sorted.{IsPermutation}
use Rattle.std.specs.Ordering.{is_eq}
use Rattle.std.proofs.lemmas.Bool.{both_ways, false_from_ne_true}
use Rattle.std.proofs.lemmas.Bool.Decides.{nat_tests}
use Rattle.std.proofs.lemmas.Cmp.{tied_itself}
use Rattle.std.proofs.lemmas.Int.{ints}
use Rattle.std.proofs.lemmas.List.Sorted.{length_permutation}
use Rattle.sqlite.specs.Order.{Row, value_cmp}
use Rattle.sqlite.specs.declared.types.Value.TheVariants.{Int}
use Rattle.sqlite.specs.Edit.{id_in, next_rowid, without_all}
use Rattle.sqlite.specs.Tree.{has_rowid, put_row, rowid, without_rowid}
use Rattle.sqlite_value.proofs.OrderLemmas.{value_cmp-Int, value_cmp_total}
use Rattle.sqlite.specs.View.{is_int}
use Rattle.sqlite_trees.proofs.ListLemmas.{IsPermutation-filter}
use Rattle.sqlite_rules.specs.Calls.{ids_of}
use Rattle.sqlite_rules.specs.Lists.{Has}
use Rattle.sqlite_rules.proofs.ListLemmas.{all_from, all_has, has_filtered, has_kept, some_from, some_has}
use Rattle.sqlite_rules.proofs.PlaceLemmas.{tied_same}
use Rattle.sqlite_rules.proofs.TableLemmas.{int_is}
use Rattle.lemmas.proofs.TestFacts.{equal_is}
use Rattle.sql_texts.specs.Found.{shown}
use Rattle.sql_tables.specs.Numbered.{IsNumbered}

-- ---- lists

all_kept : {X : Type 0} (xs : List X) → filter (λ x. not false) xs ≡ xs
all_kept [] = refl
all_kept (x ∷ xs) = ap (λ ys. x ∷ ys) (all_kept xs)

-- what two filters keep
twice_kept : {X : Type 0} (a b : X → Bool) (xs : List X) → filter (λ x. not (b x)) (filter (λ x. not (a x)) xs) ≡ filter (λ x. not (a x || b x)) xs
twice_kept a b [] = refl
twice_kept {X} a b (x ∷ xs) = by (a x) (twice_kept a b xs)
  where
    left : List X
    left = filter (λ y. not (a y)) xs

    by : (c : Bool) → filter (λ y. not (b y)) left ≡ filter (λ y. not (a y || b y)) xs
        → filter (λ y. not (b y)) (cond (not c) (x ∷ left) left) ≡ cond (not (c || b x)) (x ∷ filter (λ y. not (a y || b y)) xs) (filter (λ y. not (a y || b y)) xs)
    by true rest = rest
    by false rest = ap (λ ys. cond (not (b x)) (x ∷ ys) ys) rest

-- filters that agree on each element
pub kept_alike : {X : Type 0} (f g : X → Bool) (xs : List X) → AllByRecursion (λ x. f x ≡ g x) xs → filter f xs ≡ filter g xs
kept_alike f g [] alike = refl
kept_alike f g (x ∷ xs) alike =
    ap (λ b. cond b (x ∷ filter f xs) (filter f xs)) alike.0 ∙ ap (λ ys. cond (g x) (x ∷ ys) ys) (kept_alike f g xs alike.1)

abbrev pub is_some_of : ℕ → Bool
is_some_of zero = false
is_some_of (suc n) = true

pub any_counts : {X : Type 0} (f : X → Bool) (xs : List X) → list_any f xs ≡ is_some_of (length (filter f xs))
any_counts f [] = refl
any_counts {X} f (x ∷ xs) = by (f x) (any_counts f xs)
  where
    by : (b : Bool) → list_any f xs ≡ is_some_of (length (filter f xs)) → (b || list_any f xs) ≡ is_some_of (length (cond b (x ∷ filter f xs) (filter f xs)))
    by true rest = refl
    by false rest = rest

-- an element that passes is in each order of a list
any_permuted : {X : Type 0} (f : X → Bool) (xs ys : List X) → IsPermutation xs ys → list_any f ys ≡ list_any f xs
any_permuted f xs ys same =
    any_counts f ys ∙ ap is_some_of (length_permutation (filter f xs) (filter f ys) (IsPermutation-filter f xs ys same)) ∙ sym (any_counts f xs)

pub any_mapped : {X Y : Type 0} (f : Y → Bool) (g : X → Y) (xs : List X) → list_any f (map g xs) ≡ list_any (λ x. f (g x)) xs
any_mapped f g [] = refl
any_mapped f g (x ∷ xs) = ap (λ b. f (g x) || b) (any_mapped f g xs)

-- ---- what a deletion leaves

-- the rows without some rowids
left_without : (ids : List ℤ) (rows : List Row) → without_all rows ids ≡ filter (λ row. not (list_any (λ id. has_rowid id row) ids)) rows
left_without [] rows = sym (all_kept rows)
left_without (id ∷ ids) rows = left_without ids (without_rowid id rows) ∙ twice_kept (has_rowid id) (λ row. list_any (λ i. has_rowid i row) ids) rows

-- one of the rows that pass has this row's rowid just if it is that row
has_one : (test : Row → Bool) (rows : List Row) → IsNumbered rows → (row : Row) → Has rows row
    → list_any (λ found. has_rowid (id_in (rowid found)) row) (filter test rows) ≡ test row
has_one test rows numbered row here = by (test row) refl
  where
    whole : (r : Row) → Has rows r → rowid r ≡ Int (id_in (rowid r))
    whole r h = int_is (rowid r) (all_has (λ x. IsTrue (is_int (rowid x))) rows r numbered.1 h)

    itself : has_rowid (id_in (rowid row)) row ≡ true
    itself = ap (λ v. is_eq (value_cmp (rowid row) v)) (sym (whole row here)) ∙ ap is_eq (tied_itself value_cmp_total (rowid row))

    never : test row ≡ false → list_any (λ found. has_rowid (id_in (rowid found)) row) (filter test rows) ≡ true → ⊥
    never fails any =
        let other = some_has (λ found. has_rowid (id_in (rowid found)) row) (filter test rows) any in
        let known = has_filtered test rows other.0 other.1 in
        let tie = equal_is _ (ap (λ v. is_eq (value_cmp (rowid row) v)) (whole other.0 known.0) ∙ other.2) in
        let same = tied_same rows row other.0 numbered.0 here known.0 tie in
        absurd (both_ways _ fails (ap test same ∙ known.1))

    by : (b : Bool) → test row ≡ b → list_any (λ found. has_rowid (id_in (rowid found)) row) (filter test rows) ≡ b
    by true passes = some_from (λ found. has_rowid (id_in (rowid found)) row) (filter test rows) row (has_kept test rows row here passes) itself
    by false fails = false_from_ne_true _ (never fails)

-- what a search for the rowids of the rows that pass finds: without those, the others are left
pub left_by_test : (test : Row → Bool) (rows found : List Row) → IsNumbered rows → IsPermutation (map (shown (0 ∷ [])) (filter test rows)) found
    → without_all rows (ids_of found) ≡ filter (λ row. not (test row)) rows
left_by_test test rows found numbered same =
    left_without (ids_of found) rows
    ∙ kept_alike (λ row. not (list_any (λ id. has_rowid id row) (ids_of found))) (λ row. not (test row)) rows
    (all_from (λ row. not (list_any (λ id. has_rowid id row) (ids_of found)) ≡ not (test row)) rows (λ row here.
    ap not (any_mapped (λ id. has_rowid id row) (λ r. id_in (rowid r)) found
    ∙ any_permuted (λ r. has_rowid (id_in (rowid r)) row) (map (shown (0 ∷ [])) (filter test rows)) found same
    ∙ any_mapped (λ r. has_rowid (id_in (rowid r)) row) (shown (0 ∷ [])) (filter test rows)
    ∙ has_one test rows numbered row here)))

-- ---- where a row goes whose rowid is chosen

below : (a b c : ℤ) → int_cmp a b ≡ Less → int_cmp b c ≡ Less → int_cmp a c ≡ Less
below a b c p q = grind (arith, ints, nat_tests)

below_next : (a : ℤ) → int_cmp a (a +ℤ pos 1) ≡ Less
below_next a = grind (arith, ints, nat_tests)

abbrev stepped : ℤ → Row → ℤ
stepped n row = id_in (rowid row) +ℤ pos 1

-- each row is below the rowid after the last
pub all_below : (start : ℤ) (row : Row) (rows : List Row) → IsNumbered (row ∷ rows)
    → AllByRecursion (λ r. value_cmp (rowid r) (Int (fold stepped (stepped start row) rows)) ≡ Less) (row ∷ rows)
all_below start row [] numbered =
    (ap (λ v. value_cmp v (Int (id_in (rowid row) +ℤ pos 1))) (int_is (rowid row) numbered.1.0) ∙ value_cmp-Int _ _ ∙ below_next (id_in (rowid row)), tt)
all_below start row (next ∷ rows) numbered =
    let later = all_below (stepped start row) next rows (numbered.0.1, numbered.1.1) in
    (value_cmp_total.trans _ _ _ numbered.0.0.0 later.0, later)

-- it comes last
put_last : (new : Row) (rows : List Row) → AllByRecursion (λ r. value_cmp (rowid r) (rowid new) ≡ Less) rows → put_row new rows ≡ rows ++ new ∷ []
put_last new [] low = refl
put_last new (row ∷ rows) low = rw low.0 (ap (λ rs. row ∷ rs) (put_last new rows low.1))

pub put_next : (values : Row) (rows : List Row) → IsNumbered rows → put_row (Int (next_rowid rows) ∷ values) rows ≡ rows ++ (Int (next_rowid rows) ∷ values) ∷ []
put_next values [] numbered = refl
put_next values (row ∷ rows) numbered = put_last (Int (next_rowid (row ∷ rows)) ∷ values) (row ∷ rows) (all_below (pos 1) row rows numbered)
