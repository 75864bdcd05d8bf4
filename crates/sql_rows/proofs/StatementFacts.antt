-- What one statement that deletes or inserts leaves of the trees, from its meaning and from what the kit says of running it.
use Rattle.std.proofs.Common.{◌≡◌, ◌≢◌, ◌⊎◌, ℕ, ◌+◌, Bool, true, false, List, [], ◌∷◌, ◌++◌, Option, Some, None, Result, Ok, Err, refl, sym, ◌∙◌, ap, subst, inl, inr, ℤ, pos}
use Rattle.std.specs.Prelude.{◌/◌, cond, filter, length, map, not, slice_get}
use Rattle.std.specs.List.{AllByRecursion, range_with_len}
use Rattle.std.specs.List.Sorted.{IsPermutation}
use Rattle.sqlite.proofs.Callers.{IsPlain, command_of, one_step, runs_as, statement_of}
use Rattle.sqlite.specs.Does.{AtPlace, Does, OnRows, OnTable, Tally}
use Rattle.sqlite.specs.Edit.{edit_of, edited, next_rowid, numbered as with_numbers, put_all}
use Rattle.sqlite.specs.Effect.{Database, IsDatabase, value_rows}
use Rattle.sqlite.specs.Listing.{understood}
use Rattle.sqlite.specs.Order.{Row}
use Rattle.sqlite.specs.Program.{overlay}
use Rattle.sqlite.specs.Rows.{Counts, Outcome, Part, Task, Written, count_of, rowids_for, stamped}
use Rattle.sqlite.specs.Rowids.{Rowids}
use Rattle.sqlite.specs.Rowids.TheVariants.{Chosen, Given}
use Rattle.sqlite.specs.State.{Executes, State, mode_of}
use Rattle.sqlite.specs.Table.{Table}
use Rattle.sqlite.specs.Term.{Term, col, lit}
use Rattle.sqlite.specs.Tree.{Trees, put_row}
use Rattle.sqlite.specs.Cast.{cast, cast_row}
use Rattle.sqlite.specs.Kind.TheVariants as kind
use Rattle.sqlite.specs.declared.run.Mode.{Mode}
use Rattle.sqlite.specs.Ops.{unary}
use Rattle.sqlite.specs.declared.types.Value.{Value}
use Rattle.sqlite.specs.declared.types.Value.TheVariants.{Int, Null}
use Rattle.sqlite_rules.specs.Calls.{ids_of}
use Rattle.sqlite_trees.proofs.TreeLemmas.{IsShaped-filter, IsShaped-put_row}
use Rattle.sqlite_trees.specs.declared.store.Shape.TheVariants as shape
use Rattle.sql_texts.proofs.AnswerFacts.{plain_trees, table_answer}
use Rattle.sql_texts.specs.Found.{passes, shown}
use Rattle.sql_texts.specs.Meaning.{Means}
use Rattle.sql_texts.specs.Reads.{from_table}
use Rattle.sql_texts.specs.Schema.{bureau, bureau_version, tables}
use Rattle.sql_texts.specs.Writes.{delete_of, this_version, insert_given}
use Rattle.sql_tables.specs.Numbered.{IsNumbered}
use Rattle.sql_tables.specs.Ours.{version_rows}
use Rattle.sql_rows.proofs.RowidFacts.{left_by_test, put_next}

-- one table has other rows, which are numbered, and the others have what they had
pub record IsSet (tree : ℕ) (rows : List Row) (old new : Database) : Type 0 where
  pub schema : new.schema ≡ bureau
  pub sound : IsDatabase new
  pub rows_are : new.trees tree ≡ rows
  pub numbered : IsNumbered rows
  pub others : AllByRecursion (λ table. table.tree ≢ tree → new.trees table.tree ≡ old.trees table.tree) tables

-- ---- the parts of a statement

-- a part that gave a value did not stop on the way
pub went : {B E R : Type 0} {b : B} {Stops : E → Type 0} → ((stop : E) × Stops stop × (Ok b ≡ Err stop)) ⊎ R → R
went (inl stopped) = absurd (let e = stopped.2 in cc)
went (inr on) = on

pub same_value : {B E : Type 0} {a b : B} → ◌≡◌ {A = Result B E} (Ok a) (Ok b) → a ≡ b
same_value e = cc

-- the table at an index of the schema
pub on_table : (limit : Option ℕ) (mode : Mode) (params : Row) (db : Database) (table_index : ℕ) (P : Task → Part (Tally × Database)) (table : Table) (out : Outcome (Tally × Database))
    → slice_get db.schema.tables table_index ≡ Some table → OnTable limit mode params db table_index P out
    → P (record { limit = limit; keys = mode.keys; schema = db.schema; table = table; params = params }) out
on_table limit mode params db table_index P table out at h =
    subst (λ found. AtPlace (λ t. P (record { limit = limit; keys = mode.keys; schema = db.schema; table = t; params = params })) found out) at h

-- no table here counts its rowids
pub uncounted_rows : (task : Task) (mid next : Trees) (counter : Option Row) (top : _) → task.table.is_counted ≡ false → Counts task mid counter top (Ok next) → next ≡ mid
uncounted_rows task mid next counter top none h = same_value (rw none at h)

pub chosen_for : (table : Table) (top : ℤ) → table.is_counted ≡ false → rowids_for table top ≡ Chosen
chosen_for table top none = rw none

-- ---- numbers stay what they are

either : (b : Bool) (x : Value) → cond b x x ≡ x
either true x = refl
either false x = refl

pub cast_null : cast kind.Integer Null ≡ Null
unfolding unary
cast_null = either _ Null

pub cast_int : (n : ℤ) → cast kind.Integer (Int n) ≡ Int n
unfolding unary
cast_int n = either _ (Int n)

-- ---- DELETE

pub deletes : (text : List ℕ) (table_index : ℕ) (table : Table) (tests : List Term) (parameters : ℕ) (params : Row) (old new : State) (count : ℕ)
    → Means bureau text (delete_of table_index table.tree tests) parameters → slice_get tables table_index ≡ Some table → old.now.schema ≡ bureau
    → IsNumbered (old.now.trees table.tree) → Executes text params old new (Ok count)
    → IsSet table.tree (filter (λ row. not (passes params tests row)) (old.now.trees table.tree)) old.now new.now
deletes text table_index table tests parameters params old new count means at ours numbered h =
    let db = old.now.trees in
    let query = from_table table.tree tests (0 ∷ []) [] in
    let command = delete_of table_index table.tree tests in
    let plain = subst IsPlain (sym means.statement) (refl, refl) in
    let w = runs_as text params old new bureau ours command (ap command_of means.statement) plain count h in
    let ran = subst (λ s. Does old.step_limit (mode_of old) params (record old.now { schema = s }) (statement_of text (understood bureau text)) None command (Ok (w.tally, new.now))) ours w.changed in
    let done = went (on_table old.step_limit (mode_of old) params (record old.now { schema = bureau }) table_index (λ task. OnRows task (mode_of old) None command db) table (Ok (w.tally, new.now)) at ran) in
    let now = ap (λ (p : Tally × Database). p.1) (same_value (went (went done.2).2).2) in
    let given = went done.1 in
    let edits = went given.2 in
    let trees : done.0.trees ≡ edits.0 = ap (λ (it : Written). it.trees) (same_value edits.2) in
    let applied = one_step bureau _ db edits.0 (edit_of db table (ids_of given.0) Given 0 []) refl edits.1 in
    let found = subst (λ rows. IsPermutation (map (shown (0 ∷ [])) (filter (passes params tests) rows)) given.0) (plain_trees db table.tree)
    (table_answer table.tree tests (0 ∷ []) [] (overlay db []) params given.0 (given.1.answer Null)) in
    let left = left_by_test (passes params tests) (db table.tree) given.0 numbered found in
    let same = λ (t : ℕ). ap (λ (d : Database). d.trees t) now ∙ ap (λ (all : Trees). all t) trees in
    record {
      schema = ap (λ (d : Database). d.schema) now;
      sound = w.sound;
      rows_are = same table.tree ∙ applied.rows ∙ left;
      numbered = IsShaped-filter shape.Table (λ row. not (passes params tests row)) (db table.tree) numbered;
      others = subst (λ (all : ℕ → List Row). AllByRecursion (λ t. t.tree ≢ table.tree → all t.tree ≡ db t.tree) tables) (sym (ap (λ (d : Database). d.trees) now ∙ trees)) applied.tables;
    }

-- ---- INSERT

pub inserts : (text : List ℕ) (table_index : ℕ) (table : Table) (columns : ℕ) (values params : Row) (old new : State) (count : ℕ)
    → Means bureau text (insert_given table_index columns) columns → slice_get tables table_index ≡ Some table → table.is_counted ≡ false
    → value_rows (stamped table params) (1 + columns) (length (lit Null ∷ map (col 0) (range_with_len 0 columns)) / (1 + columns)) (lit Null ∷ map (col 0) (range_with_len 0 columns))
    ≡ (Null ∷ values) ∷ []
    → cast_row table (Null ∷ values) ≡ Null ∷ values → old.now.schema ≡ bureau
    → IsNumbered (old.now.trees table.tree) → Executes text params old new (Ok count)
    → IsSet table.tree (old.now.trees table.tree ++ (Int (next_rowid (old.now.trees table.tree)) ∷ values) ∷ []) old.now new.now
inserts text table_index table columns values params old new count means at uncounted source cast ours numbered h =
    let db = old.now.trees in
    let rows = db table.tree in
    let terms = lit Null ∷ map (col 0) (range_with_len 0 columns) in
    let command = insert_given table_index columns in
    let plain = subst IsPlain (sym means.statement) (refl, refl) in
    let w = runs_as text params old new bureau ours command (ap command_of means.statement) plain count h in
    let ran = subst (λ s. Does old.step_limit (mode_of old) params (record old.now { schema = s }) (statement_of text (understood bureau text)) None command (Ok (w.tally, new.now))) ours w.changed in
    let done = went (on_table old.step_limit (mode_of old) params (record old.now { schema = bureau }) table_index (λ task. OnRows task (mode_of old) None command db) table (Ok (w.tally, new.now)) at ran) in
    let now = ap (λ (p : Tally × Database). p.1) (same_value (went (went done.2).2).2) in
    let given = went done.1 in
    let counted = went given.2 in
    let edits = went counted.2 in
    let counts = went edits.2 in
    let task : Task = record { limit = old.step_limit; keys = (mode_of old).keys; schema = bureau; table = table; params = params } in
    let kept : counts.0 ≡ edits.0 = uncounted_rows task edits.0 counts.0 counted.0 _ uncounted counts.1 in
    let trees : done.0.trees ≡ edits.0 = ap (λ (it : Written). it.trees) (same_value counts.2) ∙ kept in
    let chosen : rowids_for table (count_of counted.0) ≡ Chosen = chosen_for table (count_of counted.0) uncounted in
    let edit = edit_of db table [] (rowids_for table (count_of counted.0)) 0 given.0 in
    let applied = one_step bureau _ db edits.0 edit refl edits.1 in
    let next = Int (next_rowid rows) ∷ values in
    let put : edited db edit ≡ put_row next rows =
    ap (λ (r : Rowids). edited db (edit_of db table [] r 0 given.0)) chosen
    ∙ ap (λ all. edited db (edit_of db table [] Chosen 0 all)) (given.1.1 ∙ source)
    ∙ ap (λ row. put_all rows (with_numbers Chosen rows (row ∷ []))) cast in
    let last : put_row next rows ≡ rows ++ next ∷ [] = put_next values rows numbered in
    let same = λ (t : ℕ). ap (λ (d : Database). d.trees t) now ∙ ap (λ (all : Trees). all t) trees in
    record {
      schema = ap (λ (d : Database). d.schema) now;
      sound = w.sound;
      rows_are = same table.tree ∙ applied.rows ∙ put ∙ last;
      numbered = subst IsNumbered last (IsShaped-put_row next rows refl numbered);
      others = subst (λ (all : ℕ → List Row). AllByRecursion (λ t. t.tree ≢ table.tree → all t.tree ≡ db t.tree) tables) (sym (ap (λ (d : Database). d.trees) now ∙ trees)) applied.tables;
    }

-- ---- the row of the version

cast_version : cast_row bureau_version (Int (pos 1) ∷ Null ∷ Int (pos 2) ∷ []) ≡ Int (pos 1) ∷ Null ∷ Int (pos 2) ∷ []
cast_version = λ i. cast_int (pos 1) i ∷ cast_null i ∷ cast_int (pos 2) i ∷ []

pub inserts_version : (text : List ℕ) (old new : State) (count : ℕ) → Means bureau text this_version 0 → old.now.schema ≡ bureau → old.now.trees 0 ≡ []
    → Executes text [] old new (Ok count) → IsSet 0 (version_rows 2) old.now new.now
inserts_version text old new count means ours none h =
    let db = old.now.trees in
    let table = bureau_version in
    let plain = subst IsPlain (sym means.statement) (refl, refl) in
    let w = runs_as text [] old new bureau ours this_version (ap command_of means.statement) plain count h in
    let ran = subst (λ s. Does old.step_limit (mode_of old) [] (record old.now { schema = s }) (statement_of text (understood bureau text)) None this_version (Ok (w.tally, new.now))) ours w.changed in
    let done = went ran in
    let now = ap (λ (p : Tally × Database). p.1) (same_value (went (went done.2).2).2) in
    let given = went done.1 in
    let counted = went given.2 in
    let edits = went counted.2 in
    let counts = went edits.2 in
    let trees : done.0.trees ≡ edits.0 = ap (λ (it : Written). it.trees) (same_value counts.2) ∙ same_value counts.1 in
    let applied = one_step bureau _ db edits.0 (edit_of db table [] Chosen 0 given.0) refl edits.1 in
    let put : edited db (edit_of db table [] Chosen 0 given.0) ≡ version_rows 2 =
    ap (λ all. edited db (edit_of db table [] Chosen 0 all)) given.1.1
    ∙ ap (λ row. put_all (db 0) (with_numbers Chosen (db 0) (row ∷ []))) cast_version
    ∙ ap (λ rows. put_all rows (with_numbers Chosen rows ((Int (pos 1) ∷ Null ∷ Int (pos 2) ∷ []) ∷ []))) none in
    let same = λ (t : ℕ). ap (λ (d : Database). d.trees t) now ∙ ap (λ (all : Trees). all t) trees in
    record {
      schema = ap (λ (d : Database). d.schema) now;
      sound = w.sound;
      rows_are = same 0 ∙ applied.rows ∙ put;
      numbered = ((tt, tt), (refl, tt));
      others = subst (λ (all : ℕ → List Row). AllByRecursion (λ t. t.tree ≢ 0 → all t.tree ≡ db t.tree) tables) (sym (ap (λ (d : Database). d.trees) now ∙ trees)) applied.tables;
    }
