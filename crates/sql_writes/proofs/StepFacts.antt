-- Why one statement of a transaction is refused, and which numbers its table has after it.
use Rattle.std.proofs.Common.{◌≡◌, ◌<◌, ◌+◌, ◌^◌, ◌/◌, ℕ, true, false, List, [], ◌∷◌, Option, None, Some, Result, Ok, Err, IsTrue, OnOk, length, map, refl, subst}
use Rattle.std.specs.Prelude.{IsSome, slice_get}
use Rattle.std.specs.List.{range_with_len}
use Rattle.sqlite.specs.Does.{Does}
use Rattle.sqlite.specs.Edit.{next_rowid}
use Rattle.sqlite.specs.Effect.{Database, value_rows}
use Rattle.sqlite.specs.Order.{Row}
use Rattle.sqlite.specs.Rows.{stamped}
use Rattle.sqlite.specs.State.{Executes, HasCleanDisk, State, mode_of}
use Rattle.sqlite.specs.Table.{Table}
use Rattle.sqlite.specs.Term.{Term, col, lit}
use Rattle.sqlite.specs.Tree.{Trees, put_row}
use Rattle.sqlite.specs.declared.error.Error.{Error}
use Rattle.sqlite.specs.declared.types.Value.TheVariants.{Int, Null}
use Rattle.sqlite_rules.specs.Keys.{are_unique}
use Rattle.sqlite_rules.proofs.ListLemmas.{has_got}
use Rattle.sqlite_schema.specs.Rules.{Keeps}
use Rattle.sqlite_schema.specs.declared.schema.Constraint.TheVariants.{Unique}
use Rattle.sqlite_trees.specs.Tree.{with_tree}
use Rattle.sqlite_typing.specs.Types.{accepts_program, accepts_terms}
use Rattle.sql_texts.specs.Meaning.{Means, parameter}
use Rattle.sql_texts.specs.Reads.{from_table}
use Rattle.sql_texts.specs.Schema.{bureau, tables}
use Rattle.sql_texts.specs.Writes.{delete_of, insert_given}
use Rattle.sql_tables.specs.Stored.{Stored}
use Rattle.sql_tables.specs.Numbered.{IsNumbered}
use Rattle.sql_tables.specs.Ours.{held_by}
use Rattle.sql_tables.specs.Writing.{IsKnown}
use Rattle.sql_tables.proofs.StopFacts.{was_clean}
use Rattle.sql_writes.specs.Excused.{IsExcused, Takes}
use Rattle.sql_writes.specs.Room.{AreUpTo, IsRoomy, are_up_to}
use Rattle.sql_rows.specs.Fitting.{IsFitting}
use Rattle.sql_rows.specs.Running.{FailsInside, Ran}
use Rattle.sql_writes.proofs.ExcuseFacts.{excused_by}
use Rattle.sql_writes.proofs.NumberFacts.{one_more_up_to, raised_up_to, set_up_to, still_up_to}
use Rattle.sql_writes.proofs.RuleFacts.{insert_stops}
use Rattle.sql_writes.proofs.SoundFacts.{comes_soundly, deletion_stops}
use Rattle.sql_rows.specs.Standing.{Stands}
use Rattle.sql_rows.proofs.StatementFacts.{deletes, inserts}
use Rattle.sql_rows.proofs.TableFacts.{at_index, numbered_so}

-- the rules of the tables hold, and their rows are numbered
pub keys_once : (database : Database) → IsKnown database → Keeps Unique bureau database.trees
keys_once database known = subst (λ s. Keeps Unique s database.trees) known.schema (known.sound.obeys.rules Unique)

-- what is known of the tables and of what they hold
abbrev pub From : ℕ → (Stored → Type 0) → Database → Type 0
From most Fits database = IsRoomy most database × Fits (held_by database)

-- each table has numbers up to the one that all have
pub low_so : (index : ℕ) (table : Table) → slice_get tables index ≡ Some table → (most : ℕ) (trees : Trees) → AreUpTo most trees → are_up_to most (trees table.tree) ≡ true
low_so index table at most trees low = at_index (λ (t : Table). are_up_to most (trees t.tree) ≡ true) tables index table at low

module _ (text : List ℕ) (old new : State) (result : Result (Unit {0}) Error) (table_index : ℕ) (table : Table) (at : slice_get tables table_index ≡ Some table)
    (numbered : (database : Database) → IsKnown database → IsNumbered (database.trees table.tree)) (low : (most : ℕ) (trees : Trees) → AreUpTo most trees → are_up_to most (trees table.tree) ≡ true) where
  -- rows that go
  pub goes_takes : (tests : List Term) (parameters : ℕ) (params : Row) → Means bureau text (delete_of table_index table.tree tests) parameters → length params ≡ length (map parameter (range_with_len 1 parameters))
      → accepts_program bureau [] (from_table table.tree tests (0 ∷ []) []) params ≡ true → Ran text params old new result → FailsInside text params old new result → Takes old new result 0 (λ stored. Unit {0})
  goes_takes tests parameters params means given accepted ran fails = record { excused = λ most room. excused most; numbers = done result ran.done }
    where
      excused : (most : ℕ) → IsExcused old new result (From most (λ stored. Unit {0}))
      excused most =
          excused_by text old new result (From most (λ stored. Unit {0})) bureau (delete_of table_index table.tree tests) (map parameter (range_with_len 1 parameters)) params (λ database from. from.0.0.schema) means.statement given refl
          (λ from stop h. deletion_stops old text table_index table tests params at from.0.0.schema (numbered old.now from.0.0).0 (keys_once old.now from.0.0) accepted stop h) fails

      done : (r : Result (Unit {0}) Error) → OnOk r (HasCleanDisk new → IsTrue old.in_transaction → IsTrue new.is_open × IsTrue new.in_transaction × ((count : ℕ) × Executes text params old new (Ok count)))
          → OnOk r (HasCleanDisk new → IsTrue old.in_transaction → (most : ℕ) → IsRoomy most old.now → AreUpTo (most + 0) new.now.trees)
      done (Err e) ran = tt
      done (Ok a) ran = λ clean inside most from.
          let it = (ran clean inside).2 in
          let set = deletes text table_index table tests parameters params old new it.0 means at from.0.schema (numbered old.now from.0) it.1 in
          raised_up_to most 0 new.now.trees (set_up_to most table.tree _ old.now new.now set (still_up_to most _ (old.now.trees table.tree) (low most old.now.trees from.1)) from.1)

  -- a row that comes
  pub comes_takes : (columns : ℕ) (values : Row) (Fits : Stored → Type 0) → (HasCleanDisk old → Means bureau text (insert_given table_index columns) columns) → table.is_counted ≡ false
      → length values ≡ length (map parameter (range_with_len 1 columns))
      → accepts_terms (lit Null ∷ map (col 0) (range_with_len 0 columns)) (stamped table values) ≡ true
      → value_rows (stamped table values) (1 + columns) (length (lit Null ∷ map (col 0) (range_with_len 0 columns)) / (1 + columns)) (lit Null ∷ map (col 0) (range_with_len 0 columns)) ≡ (Null ∷ values) ∷ []
      → IsFitting table values
      → ((database : Database) → IsKnown database → Fits (held_by database)
      → are_unique bureau.indexes (with_tree database.trees table.tree (put_row (Int (next_rowid (database.trees table.tree)) ∷ values) (database.trees table.tree))) table ((Int (next_rowid (database.trees table.tree)) ∷ values) ∷ []) ≡ true)
      → Ran text values old new result → FailsInside text values old new result → Takes old new result 1 Fits
  comes_takes columns values Fits means uncounted given accepted source fitting unique ran fails = record { excused = λ most room. excused most room result fails; numbers = done result ran.done }
    where
      terms : List Term
      terms = lit Null ∷ map (col 0) (range_with_len 0 columns)

      stops : (most : ℕ) → most + 1 < 2 ^ 63 → From most Fits old.now → (stop : Option Error) → Does old.step_limit (mode_of old) values old.now text None (insert_given table_index columns) (Err stop) → IsSome old.step_limit
      stops most room from stop =
          insert_stops old text table_index table terms (1 + columns) values ((Null ∷ values) ∷ []) from.0.0.schema at uncounted accepted source
          (comes_soundly table values (has_got tables table_index table at) fitting old.now.trees most (numbered old.now from.0.0) (low most old.now.trees from.0.1) room (keys_once old.now from.0.0) (unique old.now from.0.0 from.1)) stop

      excused : (most : ℕ) → most + 1 < 2 ^ 63 → (r : Result (Unit {0}) Error) → FailsInside text values old new r → IsExcused old new r (From most Fits)
      excused most room (Ok a) fails = tt
      excused most room (Err e) fails = λ clean inside from.
          excused_by {A = Unit {0}} text old new (Err e) (From most Fits) bureau (insert_given table_index columns) (map parameter (range_with_len 1 columns)) values (λ database from. from.0.0.schema) (means (was_clean old new _ ran.survives clean)).statement given refl
          (λ from stop h. stops most room from stop h) fails clean inside from

      done : (r : Result (Unit {0}) Error) → OnOk r (HasCleanDisk new → IsTrue old.in_transaction → IsTrue new.is_open × IsTrue new.in_transaction × ((count : ℕ) × Executes text values old new (Ok count)))
          → OnOk r (HasCleanDisk new → IsTrue old.in_transaction → (most : ℕ) → IsRoomy most old.now → AreUpTo (most + 1) new.now.trees)
      done (Err e) went = tt
      done (Ok a) went = λ clean inside most from.
          let it = (went clean inside).2 in
          let set = inserts text table_index table columns values values old new it.0 (means (was_clean old new _ ran.survives clean)) at uncounted source fitting.cast from.0.schema (numbered old.now from.0) it.1 in
          set_up_to (most + 1) table.tree _ old.now new.now set (one_more_up_to most values (old.now.trees table.tree) (low most old.now.trees from.1)) (raised_up_to most 1 old.now.trees from.1)

-- the rows of a key go from a table, whichever it is
pub rows_go_takes : (text : List ℕ) (old new : State) (result : Result (Unit {0}) Error) (index : ℕ) (table : Table) (rows : Stored → List Row) (with_rows : List Row → Stored → Stored)
    → Stands index table rows with_rows → (tests : List Term) (parameters : ℕ) (params : Row) → Means bureau text (delete_of index table.tree tests) parameters
    → length params ≡ length (map parameter (range_with_len 1 parameters)) → accepts_program bureau [] (from_table table.tree tests (0 ∷ []) []) params ≡ true
    → Ran text params old new result → FailsInside text params old new result → Takes old new result 0 (λ stored. Unit {0})
rows_go_takes text old new result index table rows with_rows stands tests parameters params means given accepted ran fails =
    goes_takes text old new result index table stands.placed (numbered_so index table rows with_rows stands) (low_so index table stands.placed) tests parameters params means given accepted ran fails
