-- Which numbers rows have, after some go and after one comes.
use Rattle.std.proofs.Common.{◌≡◌, ◌≢◌, ◌≤◌, ◌+◌, ◌+ℤ◌, ◌==◌, ◌++◌, ℕ, pos, negsuc, suc, Bool, true, false, List, [], ◌∷◌, refl, sym, ◌∙◌, ap, subst, arith}
use Rattle.std.specs.Prelude.{filter, fold, nat_le}
use Rattle.std.specs.List.{AllByRecursion}
use Rattle.std.proofs.lemmas.Bool.{and_parts, eqb-false, eqb-true, false≢true}
use Rattle.std.proofs.lemmas.Bool.Decides.{nat_tests}
use Rattle.std.proofs.lemmas.Int.{ints}
use Rattle.sqlite.specs.Edit.{id_in, next_rowid}
use Rattle.sqlite.specs.Effect.{Database}
use Rattle.sqlite.specs.Order.{Row}
use Rattle.sqlite.specs.Table.{Table}
use Rattle.sqlite.specs.Tree.{Trees, rowid}
use Rattle.sqlite.specs.declared.types.Value.{Value}
use Rattle.sqlite.specs.declared.types.Value.TheVariants.{Blob, Int, Null, Real, Text}
use Rattle.sqlite_rules.proofs.ListLemmas.{has_filtered, test_from, test_has, test_push}
use Rattle.sql_texts.specs.Schema.{tables}
use Rattle.sql_writes.specs.Room.{AreUpTo, are_up_to, is_up_to}
use Rattle.sql_rows.proofs.StatementFacts.{IsSet}

up_to_is : (most : ℕ) (value : Value) → is_up_to most value ≡ true → (n : ℕ) × (value ≡ Int (pos n)) × (n ≤ most)
up_to_is most (Int (pos n)) low = (n, refl, grind (arith, nat_tests, low))
up_to_is most (Int (negsuc n)) low = absurd (false≢true low)
up_to_is most (Text t) low = absurd (false≢true low)
up_to_is most (Blob b) low = absurd (false≢true low)
up_to_is most (Real x) low = absurd (false≢true low)
up_to_is most Null low = absurd (false≢true low)

is_low : (most n : ℕ) → n ≤ most → nat_le n most ≡ true
is_low most n low = grind (arith, nat_tests, low)

-- what is up to one number is up to a higher one
raised : (most more : ℕ) (value : Value) → is_up_to most value ≡ true → is_up_to (most + more) value ≡ true
raised most more value low =
    let it = up_to_is most value low in
    let below = it.2 in
    subst (λ v. is_up_to (most + more) v ≡ true) (sym it.1) (is_low (most + more) it.0 (omega (arith, below)))

pub all_raised : (most more : ℕ) (rows : List Row) → are_up_to most rows ≡ true → are_up_to (most + more) rows ≡ true
all_raised most more rows low =
    test_from (λ row. is_up_to (most + more) (rowid row)) rows (λ row here. raised most more (rowid row) (test_has (λ row. is_up_to most (rowid row)) rows row low here))

pub still_up_to : (most : ℕ) (test : Row → Bool) (rows : List Row) → are_up_to most rows ≡ true → are_up_to most (filter test rows) ≡ true
still_up_to most test rows low =
    test_from (λ row. is_up_to most (rowid row)) (filter test rows) (λ row here. test_has (λ row. is_up_to most (rowid row)) rows row low (has_filtered test rows row here).0)

-- ---- the number of the next row

pub one_more : (n : ℕ) → pos n +ℤ pos 1 ≡ pos (suc n)
one_more n = grind (arith, ints)

next_from : (most start : ℕ) (rows : List Row) → start ≤ most + 1 → are_up_to most rows ≡ true
    → (m : ℕ) × (fold (λ _ row. id_in (rowid row) +ℤ pos 1) (pos start) rows ≡ pos m) × (m ≤ most + 1)
next_from most start [] low all = (start, refl, low)
next_from most start (row ∷ rows) low all =
    let here = up_to_is most (rowid row) (and_parts _ _ all).0 in
    let below = here.2 in
    let it = next_from most (suc here.0) rows (omega (arith, below)) (and_parts _ _ all).1 in
    (it.0, ap (λ n. fold (λ _ row. id_in (rowid row) +ℤ pos 1) n rows) (ap (λ v. id_in v +ℤ pos 1) here.1 ∙ one_more here.0) ∙ it.1, it.2)

pub next_is : (most : ℕ) (rows : List Row) → are_up_to most rows ≡ true → (m : ℕ) × (next_rowid rows ≡ pos m) × (m ≤ most + 1)
next_is most rows all = next_from most 1 rows (omega arith) all

-- with the next row
pub one_more_up_to : (most : ℕ) (values : Row) (rows : List Row) → are_up_to most rows ≡ true → are_up_to (most + 1) (rows ++ (Int (next_rowid rows) ∷ values) ∷ []) ≡ true
one_more_up_to most values rows all =
    let it = next_is most rows all in
    test_push (λ row. is_up_to (most + 1) (rowid row)) rows (Int (next_rowid rows) ∷ values) (all_raised most 1 rows all)
    (ap (λ n. is_up_to (most + 1) (Int n)) it.1 ∙ is_low (most + 1) it.0 it.2)

-- ---- where one table has other rows

up_to_after : (most : ℕ) (tree : ℕ) (old new : Trees) (all : List Table) → are_up_to most (new tree) ≡ true → AllByRecursion (λ table. are_up_to most (old table.tree) ≡ true) all
    → AllByRecursion (λ table. table.tree ≢ tree → new table.tree ≡ old table.tree) all → AllByRecursion (λ table. are_up_to most (new table.tree) ≡ true) all
up_to_after most tree old new [] here before others = tt
up_to_after most tree old new (table ∷ all) here before others = (by (table.tree == tree) refl, up_to_after most tree old new all here before.1 others.1)
  where
    by : (b : Bool) → (table.tree == tree) ≡ b → are_up_to most (new table.tree) ≡ true
    by true same = subst (λ t. are_up_to most (new t) ≡ true) (sym (eqb-true table.tree tree same)) here
    by false apart = subst (λ rows. are_up_to most rows ≡ true) (sym (others.0 (eqb-false table.tree tree apart))) before.0

pub set_up_to : (most : ℕ) (tree : ℕ) (rows : List Row) (old new : Database) → IsSet tree rows old new → are_up_to most rows ≡ true → AreUpTo most old.trees → AreUpTo most new.trees
set_up_to most tree rows old new set low before =
    up_to_after most tree old.trees new.trees tables (subst (λ r. are_up_to most r ≡ true) (sym set.rows_are) low) before set.others

every_raised : (most more : ℕ) (trees : Trees) (all : List Table) → AllByRecursion (λ table. are_up_to most (trees table.tree) ≡ true) all
    → AllByRecursion (λ table. are_up_to (most + more) (trees table.tree) ≡ true) all
every_raised most more trees [] low = tt
every_raised most more trees (table ∷ all) low = (all_raised most more (trees table.tree) low.0, every_raised most more trees all low.1)

pub raised_up_to : (most more : ℕ) (trees : Trees) → AreUpTo most trees → AreUpTo (most + more) trees
raised_up_to most more trees low = every_raised most more trees tables low
