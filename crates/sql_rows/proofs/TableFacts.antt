-- What a statement makes of the rows of a table, whichever it is.
use Rattle.std.proofs.Common.{◌≡◌, ◌++◌, ℕ, zero, suc, Bool, false, cond, List, [], ◌∷◌, Result, Some, refl, sym, ◌∙◌, ap, subst, append_assoc, map}
use Rattle.std.specs.Prelude.{drop, filter, not, slice_get}
use Rattle.std.specs.List.{AllByRecursion, list_any}
use Rattle.std.proofs.lemmas.Bool.{eqb-false, or_parts}
use Rattle.std.proofs.lemmas.List.{append-nil}
use Rattle.sqlite.specs.Effect.{Database}
use Rattle.sqlite.specs.Order.{Row}
use Rattle.sqlite.specs.State.{State}
use Rattle.sqlite.specs.Table.{Table}
use Rattle.sqlite.specs.Term.{Term}
use Rattle.sql_texts.specs.Found.{passes}
use Rattle.sql_texts.specs.Meaning.{Means}
use Rattle.sql_texts.specs.Schema.{bureau, tables}
use Rattle.sql_texts.specs.Writes.{delete_of}
use Rattle.sql_tables.specs.Changes.{coming, going, instead, replaced}
use Rattle.sql_tables.specs.Stored.{Stored, of_table}
use Rattle.sql_tables.specs.Numbered.{IsNumbered}
use Rattle.sql_tables.specs.Ours.{held_by}
use Rattle.sql_tables.specs.Writing.{Changes, IsKnown}
use Rattle.sql_rows.specs.Running.{Ran}
use Rattle.sql_rows.specs.Standing.{Stands}
use Rattle.sql_rows.proofs.ChangeFacts.{changed_by}
use Rattle.sql_rows.proofs.StatementFacts.{IsSet, deletes}
use Rattle.sql_rows.proofs.StoredFacts.{gone, held_set, known_after, replaced_then}

-- what holds of all holds of the one at an index
pub at_index : {X : Type 0} (P : X → Type 0) (xs : List X) (i : ℕ) (x : X) → slice_get xs i ≡ Some x → AllByRecursion P xs → P x
at_index P [] i x at all = absurd (cc)
at_index P (y ∷ xs) zero x at all = let same : y ≡ x = cc in subst P same all.0
at_index P (y ∷ xs) (suc i) x at all = at_index P xs i x at all.1

pub none_filtered : (test : Row → Bool) (rows : List Row) → list_any test rows ≡ false → filter (λ row. not (test row)) rows ≡ rows
none_filtered test [] none = refl
none_filtered test (row ∷ rows) none =
    let parts = or_parts (test row) (list_any test rows) none in
    let kept = filter (λ row. not (test row)) rows in
    ap (λ b. cond (not b) (row ∷ kept) kept) parts.0 ∙ ap (λ rest. row ∷ rest) (none_filtered test rows parts.1)

pub none_gone : (test : Row → Bool) (rows : List Row) → list_any test rows ≡ false → rows ≡ replaced test [] rows
none_gone test rows none = sym (append-nil (filter (λ row. not (test row)) rows) ∙ none_filtered test rows none)

module _ (index : ℕ) (table : Table) (rows : Stored → List Row) (with_rows : List Row → Stored → Stored) (stands : Stands index table rows with_rows) where
  pub numbered_so : (database : Database) → IsKnown database → IsNumbered (database.trees table.tree)
  numbered_so database known = at_index (λ (t : Table). IsNumbered (database.trees t.tree)) tables index table stands.placed known.numbered

  -- what is known where its tree has other rows, and all else is as it was
  pub set_so : (left : List Row) (old new : Database) → IsKnown old → IsSet table.tree left old new
      → IsKnown new × (held_by new ≡ with_rows (map (drop 1) left) (held_by old)) × (new.trees 0 ≡ old.trees 0)
  set_so left old new known set = (
    known_after table.tree left old new known.numbered set,
    held_set table.tree left old new set ∙ stands.set old.trees left,
    set.others.0 (eqb-false 0 table.tree stands.apart),
  )

  -- the statement that deletes the rows that pass some tests
  pub goes : {A F : Type 0} (old new : State) (text : List ℕ) (params : Row) (tests : List Term) (parameters : ℕ) (has : Row → Bool) (result : Result A F)
      → ((row : Row) → passes params tests row ≡ has (drop 1 row))
      → Means bureau text (delete_of index table.tree tests) parameters → Ran text params old new result
      → Changes old new result (going (of_table rows with_rows) has)
  goes old new text params tests parameters has result alike means ran =
      let there = old.now.trees table.tree in
      changed_by old new text params result (going (of_table rows with_rows) has) ran (λ clean count known executes.
      let set = deletes text index table tests parameters params old new count means stands.placed known.schema (numbered_so old.now known) executes in
      let after = set_so _ old.now new.now known set in (
        after.0,
        after.1 ∙ ap (λ all. with_rows all (held_by old.now)) (gone has (passes params tests) alike there ∙ ap (replaced has []) (sym (stands.here old.now.trees))),
        after.2,
      ))

  -- nothing goes where nothing is there
  pub none_goes : (has : Row → Bool) (stored : Stored) → list_any has (rows stored) ≡ false → stored ≡ going (of_table rows with_rows) has stored
  none_goes has stored none = sym (stands.kept stored) ∙ ap (λ all. with_rows all stored) (none_gone has (rows stored) none)

  -- rows that go, and then rows that come
  pub in_place : (has : Row → Bool) (news : List Row) (stored : Stored) → coming (of_table rows with_rows) news (going (of_table rows with_rows) has stored) ≡ instead (of_table rows with_rows) has news stored
  in_place has news stored =
      let left = replaced has [] (rows stored) in
      stands.again (rows (with_rows left stored) ++ news) left stored
      ∙ ap (λ all. with_rows all stored) (ap (λ all. all ++ news) (stands.got left stored) ∙ replaced_then has news (rows stored))

  -- rows that come after rows that came
  pub none_come : (stored : Stored) → stored ≡ coming (of_table rows with_rows) [] stored
  none_come stored = sym (ap (λ all. with_rows all stored) (append-nil (rows stored)) ∙ stands.kept stored)

  pub more_come : (ones others : List Row) (stored : Stored) → coming (of_table rows with_rows) others (coming (of_table rows with_rows) ones stored) ≡ coming (of_table rows with_rows) (ones ++ others) stored
  more_come ones others stored =
      stands.again (rows (with_rows (rows stored ++ ones) stored) ++ others) (rows stored ++ ones) stored
      ∙ ap (λ all. with_rows all stored) (ap (λ all. all ++ others) (stands.got (rows stored ++ ones) stored) ∙ append_assoc (rows stored) ones others)
