-- What a read in a transaction tells: whether a key has rows, and whether a client has a zone.
use Rattle.std.proofs.Common.{◌≡◌, ℕ, zero, suc, ◌==◌, Bool, false, List, [], ◌∷◌, Result, Ok, refl, sym, ◌∙◌, ap, subst, ◌++◌, arith, cond}
use Rattle.std.specs.Prelude.{drop, filter, length, map, not}
use Rattle.std.specs.List.{list_any}
use Rattle.std.proofs.lemmas.Bool.Decides.{nat_tests}
use Rattle.std.proofs.lemmas.List.{length-map}
use Rattle.std.proofs.lemmas.List.Sorted.{length_permutation}
use Rattle.sqlite.specs.Order.{Row}
use Rattle.sqlite.specs.State.{HasCleanDisk, Shown, State}
use Rattle.sqlite.specs.Table.{Table}
use Rattle.sqlite.specs.Term.{Term}
use Rattle.sqlite.specs.Values.{bound}
use Rattle.sqlite_value.specs.declared.value.ValueRef.{ValueRef}
use Rattle.sql_texts.proofs.AnswerFacts.{table_read}
use Rattle.sql_texts.specs.Found.{passes, shown}
use Rattle.sql_texts.specs.Meaning.{Reads}
use Rattle.sql_texts.specs.Schema.{bureau}
use Rattle.sql_texts.specs.Reads.{from_table}
use Rattle.sql_tables.specs.Changes.{coming, going, with_head}
use Rattle.sql_tables.specs.InTrees.{columns_of}
use Rattle.sql_tables.specs.Rows.{head_row}
use Rattle.sql_tables.specs.Stored.{Stored, head_table, is_of_both, of_table}
use Rattle.sql_tables.specs.Ours.{held_by}
use Rattle.sql_tables.specs.Writing.{Changes, IsKnown}
use Rattle.sql_tables.proofs.StopFacts.{was_clean}
use Rattle.sql_rows.specs.Standing.{Stands}
use Rattle.sql_rows.proofs.ChangeFacts.{alike_here, changes_then}
use Rattle.sql_rows.proofs.TableFacts.{none_goes}
use Rattle.sql_rows.proofs.TurnFacts.{told}
use Rattle.sql_rows.proofs.RowidFacts.{any_counts, any_mapped, is_some_of}

any_alike : {X : Type 0} (f g : X → Bool) → ((x : X) → f x ≡ g x) → (xs : List X) → list_any f xs ≡ list_any g xs
any_alike f g same xs = ap (λ test. list_any test xs) (λ i x. same x i)

pub some_there : (n : ℕ) → is_some_of n ≡ not (n == 0)
some_there zero = refl
some_there (suc n) = grind (arith, nat_tests)

-- that a read of one table finds a row tells that one passes its tests
rows_found : (text : List ℕ) (tree : ℕ) (tests : List Term) (project order : List ℕ) (names : List (List ℕ)) (parameters : ℕ) (params : Row) (old new : State) (rows : List Row) (test : Row → Bool)
    → Reads bureau text (from_table tree tests project order) names parameters → IsKnown old.now → Shown text params old new rows → ((row : Row) → passes params tests row ≡ test (drop 1 row))
    → is_some_of (length rows) ≡ list_any test (columns_of (old.now.trees tree))
rows_found text tree tests project order names parameters params old new rows test reads known shows alike =
    let trees = old.now.trees tree in
    let same = table_read text tree tests project order names parameters params old new rows reads known.schema shows in
    ap is_some_of (length_permutation (map (shown project) (filter (passes params tests) trees)) rows same ∙ length-map (filter (passes params tests) trees) (shown project))
    ∙ sym (any_counts (passes params tests) trees)
    ∙ any_alike (passes params tests) (λ row. test (drop 1 row)) alike trees
    ∙ sym (any_mapped test (drop 1) trees)

-- ---- whether rows of a table have a key

module _ (index : ℕ) (table : Table) (rows : Stored → List Row) (with_rows : List Row → Stored → Stored) (stands : Stands index table rows with_rows) where
  pub found_so : (text : List ℕ) (tests : List Term) (name : List ℕ) (parameters : ℕ) (params : Row) (values : List ValueRef) (has : Row → Bool) (old new : State) (found : List Row)
      → ((row : Row) → passes params tests row ≡ has (drop 1 row)) → bound values ≡ params → Reads bureau text (from_table table.tree tests (0 ∷ []) []) (name ∷ []) parameters
      → IsKnown old.now → Shown text (bound values) old new found → is_some_of (length found) ≡ list_any has (rows (held_by old.now))
  found_so text tests name parameters params values has old new found alike given reads known shows =
      rows_found text table.tree tests (0 ∷ []) [] (name ∷ []) parameters params old new found has reads known (subst (λ row. Shown text row old new found) given shows) alike
      ∙ ap (list_any has) (sym (stands.here old.now.trees))

  -- none has it, so nothing goes
  pub spared : {A B F : Type 0} (old mid : State) (has : Row → Bool) (a : A) (b : B) → Changes {Fault = F} old mid (Ok a) (λ stored. stored)
      → (HasCleanDisk mid → IsKnown old.now → list_any has (rows (held_by old.now)) ≡ false) → Changes {Fault = F} old mid (Ok b) (going (of_table rows with_rows) has)
  spared old mid has a b h none =
      alike_here old mid (Ok b) (λ stored. stored) (going (of_table rows with_rows) has)
      (λ clean known. none_goes index table rows with_rows stands has (held_by old.now) (none clean known)) (told old mid a b (λ stored. stored) h)

-- ---- whether a client has a zone

head_added_here : (client zone : List ℕ) (heads : List Row) → list_any (is_of_both client zone) heads ≡ false → heads ++ head_row client zone [] ∷ [] ≡ with_head client zone heads
head_added_here client zone heads none = sym (ap (λ b. cond b heads (heads ++ head_row client zone [] ∷ [])) none)

-- the head comes
pub head_added : {A B E F : Type 0} (old mid new : State) (client zone : List ℕ) (a : A) (result : Result B F) → Changes {Fault = E} old mid (Ok a) (λ stored. stored)
    → (HasCleanDisk mid → IsKnown old.now → list_any (is_of_both client zone) (held_by old.now).heads ≡ false) → Changes mid new result (coming head_table (head_row client zone [] ∷ []))
    → Changes old new result (λ stored. record stored { heads = with_head client zone stored.heads })
head_added old mid new client zone a result one none two =
    alike_here old new result (coming head_table (head_row client zone [] ∷ [])) (λ stored. record stored { heads = with_head client zone stored.heads })
    (λ clean known. ap (λ heads. record (held_by old.now) { heads = heads }) (head_added_here client zone (held_by old.now).heads (none (was_clean mid new _ two.survives clean) known)))
    (changes_then old mid new a result (λ stored. stored) (coming head_table (head_row client zone [] ∷ [])) one two)
