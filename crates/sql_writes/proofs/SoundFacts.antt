-- No rule of the bureau's tables speaks against rows that go, or against a row with a key of its own that comes.
use Rattle.std.proofs.Common.{◌≡◌, ◌≢◌, ◌&&◌, ◌<◌, ◌+◌, ◌==◌, ℕ, ℤ, Bool, true, false, cond, List, [], ◌∷◌, Some, Err, Option, None, length, map, refl, sym, ◌∙◌, ap, subst, inl, inr, arith}
use Rattle.std.specs.Prelude.{IsSome, ◌^◌, nat_lt, not, slice_get}
use Rattle.std.specs.List.{AllByRecursion, list_all}
use Rattle.std.proofs.lemmas.Bool.{and_parts, eq-eqb, false≢true, lt-ltb, ne_eqb}
use Rattle.sqlite.specs.Does.{Does, OnRows}
use Rattle.sqlite.specs.Edit.{next_rowid, numbered}
use Rattle.sqlite.specs.Order.{Row}
use Rattle.sqlite.specs.Rows.{Queried}
use Rattle.sqlite.specs.State.{State, mode_of}
use Rattle.sqlite.specs.Table.{Table}
use Rattle.sqlite.specs.Term.{Term}
use Rattle.sqlite.specs.Tree.{IsTable, Trees, put_row}
use Rattle.sqlite.specs.declared.error.Error.{Error}
use Rattle.sqlite.specs.declared.types.Value.TheVariants.{Int, Null}
use Rattle.sqlite_rules.specs.Calls.{ids_of}
use Rattle.sqlite_rules.specs.Edit.{IsOversized, IsRefused, are_fresh, edit_of, row_at, without_all}
use Rattle.sqlite_rules.specs.Keys.{are_unique}
use Rattle.sqlite_rules.specs.Lists.{Has}
use Rattle.sqlite_rules.specs.declared.error.Refusal.{Refusal}
use Rattle.sqlite_rules.specs.declared.error.Refusal.TheVariants as rule
use Rattle.sqlite_rules.specs.declared.error.Refusal.TheVariants.{BadReference, Mismatch, NoRowid, TooDeep}
use Rattle.sqlite_rules.specs.declared.error.Rowids.TheVariants.{Chosen, Given}
use Rattle.sqlite_rules.proofs.ListLemmas.{has_got, has_kept, test_from}
use Rattle.sqlite_rules.proofs.PlaceLemmas.{left_or_taken, next_is_free}
use Rattle.sqlite_rules.proofs.RuleLemmas.{Turns, unique_kept}
use Rattle.sqlite_rules.proofs.TableLemmas.{has_put, put_all_keeps, put_has, without_all_has}
use Rattle.sqlite_schema.specs.Rules.{Keeps, guards, index_reals, is_key_of, table_reals}
use Rattle.sqlite_schema.specs.declared.schema.Constraint.TheVariants.{Check, Datatype, ForeignKey, NotNull, PrimaryKey, Unique}
use Rattle.sqlite_schema.specs.declared.schema.Index.{Index}
use Rattle.sqlite_schema.specs.declared.schema.Keys.TheVariants.{Enforced}
use Rattle.sqlite_sql.specs.Catalog.{entry_of}
use Rattle.sqlite_sql.specs.Ops.{fits_i64}
use Rattle.sqlite_trees.specs.Tree.{IsAscending, with_tree}
use Rattle.sqlite_trees.specs.View.{IsStorable, IsStorableRow}
use Rattle.sqlite_typing.specs.Types.{accepts_program}
use Rattle.lemmas.proofs.TestFacts.{or_true}
use Rattle.sql_texts.specs.Reads.{from_table}
use Rattle.sql_texts.specs.Schema.{bureau, indexes, tables}
use Rattle.sql_texts.specs.Writes.{delete_of}
use Rattle.sql_tables.specs.Numbered.{IsNumbered}
use Rattle.sql_writes.specs.Room.{are_up_to}
use Rattle.sql_rows.specs.Fitting.{IsFitting}
use Rattle.sql_writes.proofs.NumberFacts.{next_is}
use Rattle.sql_writes.proofs.RefusalFacts.{both, gave, halts}
use Rattle.sql_writes.proofs.RuleFacts.{IsSound, concluded, unedited}
use Rattle.sql_rows.proofs.StatementFacts.{on_table}

-- ---- each table has a tree of its own

abbrev are_apart : List Table → Bool
are_apart [] = true
are_apart (table ∷ all) = list_all (λ other. not (table.tree == other.tree)) all && are_apart all

apart_from : (all : List Table) → are_apart all ≡ true → IsAscending (λ a b. a.tree ≡ b.tree → ⊥) all
apart_from [] apart = tt
apart_from (table ∷ all) apart =
    let parts = and_parts (list_all (λ (other : Table). not (table.tree == other.tree)) all) (are_apart all) apart in
    (each all parts.0, apart_from all parts.1)
  where
    each : (others : List Table) → list_all (λ other. not (table.tree == other.tree)) others ≡ true → AllByRecursion (λ other. table.tree ≡ other.tree → ⊥) others
    each [] all = tt
    each (other ∷ others) all =
        let parts = and_parts (not (table.tree == other.tree)) (list_all (λ (it : Table). not (table.tree == it.tree)) others) all in
        ((λ same. false≢true (sym (ap not (eq-eqb table.tree other.tree same)) ∙ parts.0)), each others parts.1)

pub trees_apart : IsAscending (λ a b. a.tree ≡ b.tree → ⊥) bureau.tables
trees_apart = apart_from tables refl

pub here_it_is : (db : Trees) (tree : ℕ) (rows : List Row) → with_tree db tree rows tree ≡ rows
here_it_is db tree rows = ap (λ b. cond b rows (db tree)) (eq-eqb tree tree refl)

pub elsewhere : (db : Trees) (tree : ℕ) (rows : List Row) (t : ℕ) → t ≢ tree → with_tree db tree rows t ≡ db t
elsewhere db tree rows t other = ap (λ b. cond b rows (db t)) (ne_eqb t tree other)

-- ---- rows that go

module _ (table : Table) (listed : Has bureau.tables table) (db : Trees) (ids : List ℤ) (ordered : IsTable (db table.tree)) (keeps : Keeps Unique bureau db) where
  abbrev left : List Row
  left = without_all (db table.tree) ids

  turned : Turns bureau db (with_tree db table.tree left) table left (map (row_at (db table.tree)) ids) []
  turned = record {
    apart = trees_apart;
    listed = listed;
    others = λ t known other. elsewhere db table.tree left t.tree other;
    from = λ r here. inr (subst (λ l. Has l r) (here_it_is db table.tree left) here);
    stays = λ r here. subst (λ l. Has l r) (sym (here_it_is db table.tree left)) here;
    added = λ r none. absurd none;
    was = λ r here. without_all_has ids (db table.tree) r here;
    split = λ r here. left_or_taken (db table.tree) ids r ordered here;
  }

  none_clashes : are_unique bureau.indexes (with_tree db table.tree left) table [] ≡ true
  none_clashes = test_from (λ (i : Index). not (guards i table && false)) bureau.indexes (λ i here. by (guards i table))
    where
      by : (b : Bool) → not (b && false) ≡ true
      by true = refl
      by false = refl

  pub left_soundly : IsSound db (edit_of db table ids Given 0 [])
  left_soundly = record { free = refl; ruled = ruled; small = λ row none. absurd none }
    where
      ruled : (r : Refusal) → IsRefused bureau Enforced db (edit_of db table ids Given 0 []) r → ⊥
      ruled (rule.Violates Datatype) fails = false≢true (sym fails)
      ruled (rule.Violates NotNull) fails = false≢true (sym fails)
      ruled (rule.Violates Check) fails = false≢true (sym fails)
      ruled (rule.Violates PrimaryKey) fails = false≢true (sym fails)
      ruled (rule.Violates Unique) fails = fails (unique_kept bureau db (with_tree db table.tree left) table left (map (row_at (db table.tree)) ids) [] turned none_clashes keeps)
      ruled (rule.Violates ForeignKey) fails = fails
      ruled Mismatch fails = false≢true (sym fails)
      ruled NoRowid fails = false≢true (sym fails)
      ruled BadReference fails = false≢true (sym fails ∙ or_true (not (nat_lt 0 (length ids))))
      ruled TooDeep fails = fails

-- a statement that deletes rows of a table is stopped by nothing but a limit of steps
pub deletion_stops : (old : State) (text : List ℕ) (table_index : ℕ) (table : Table) (tests : List Term) (params : Row) → slice_get tables table_index ≡ Some table → old.now.schema ≡ bureau
    → IsTable (old.now.trees table.tree) → Keeps Unique bureau old.now.trees → accepts_program bureau [] (from_table table.tree tests (0 ∷ []) []) params ≡ true
    → (stop : Option Error) → Does old.step_limit (mode_of old) params old.now text None (delete_of table_index table.tree tests) (Err stop) → IsSome old.step_limit
deletion_stops old text table_index table tests params at ours ordered keeps accepted stop h =
    let command = delete_of table_index table.tree tests in
    let here = subst (λ s. Does old.step_limit (mode_of old) params (record old.now { schema = s }) text None command (Err stop)) ours h in
    let on = on_table old.step_limit (mode_of old) params (record old.now { schema = bureau }) table_index (λ task. OnRows task (mode_of old) None command old.now.trees) table (Err stop) at here in
    halts on (λ s writes. halts writes (λ s′ asked. unasked s′ asked) (λ found. halts found.2 (λ s′ edits. unedited old.now.trees _ s′ (left_soundly table (has_got tables table_index table at) old.now.trees (ids_of found.0) ordered keeps) edits) (λ done. gave done.2)))
    (λ written. concluded (record { limit = old.step_limit; keys = Enforced; schema = bureau; table = table; params = params }) old written.0 stop refl written.2)
  where
    unasked : (s : Option Error) → Queried old.step_limit (record { schema = bureau; trees = old.now.trees }) (record { lets = []; body = from_table table.tree tests (0 ∷ []) [] }) params (Err s) → IsSome old.step_limit
    unasked None none = absurd none
    unasked (Some e) (inl mismatch) = absurd (both accepted mismatch.1)
    unasked (Some e) (inr (inl overflows)) = absurd (elim overflows.1 [ inl none ↦ none | inr some ↦ some.4 ])
    unasked (Some e) (inr (inr limited)) = limited.1

-- ---- a row that comes

module _ (table : Table) (values : Row) (listed : Has bureau.tables table) (fits : IsFitting table values) (db : Trees) (most : ℕ) (ordered : IsNumbered (db table.tree))
    (low : are_up_to most (db table.tree) ≡ true) (room : most + 1 < 2 ^ 63) (keeps : Keeps Unique bureau db) where
  abbrev rows : List Row
  rows = db table.tree

  abbrev new : Row
  new = Int (next_rowid rows) ∷ values

  abbrev after : Trees
  after = with_tree db table.tree (put_row new rows)

  module _ (unique : are_unique bureau.indexes after table (new ∷ []) ≡ true) where
    fresh : are_fresh rows (new ∷ []) ≡ true
    fresh = ap (λ b. not b && true) (next_is_free Chosen rows values ordered.0 ordered.1)

    within : (fits_i64 (next_rowid rows) && true) ≡ true
    within =
        let it = next_is most rows low in
        let below = it.2 in
        ap (λ n. fits_i64 n && true) it.1 ∙ ap (λ b. b && true) (lt-ltb it.0 (2 ^ 63) (omega (arith, room, below)))

    turned_so : Turns bureau db after table rows [] (new ∷ [])
    turned_so = record {
      apart = trees_apart;
      listed = listed;
      others = λ t known other. elsewhere db table.tree (put_row new rows) t.tree other;
      from = λ r here. elim (put_has new rows r (subst (λ l. Has l r) (here_it_is db table.tree (put_row new rows)) here)) [ inl is ↦ inl (inl is) | inr was ↦ inr was ];
      stays = λ r here. subst (λ l. Has l r) (sym (here_it_is db table.tree (put_row new rows))) (put_all_keeps (new ∷ []) rows r fresh here);
      added = λ r here. elim here [
        | inl is ↦ subst (λ l. Has l r) (sym (here_it_is db table.tree (put_row new rows))) (subst (Has (put_row new rows)) (sym is) (has_put new rows))
        | inr none ↦ absurd none
      ];
      was = λ r here. here;
      split = λ r here. inl here;
    }

    fitted : IsSound db (record { table = table; gone = []; news = new ∷ [] })
    fitted = record { free = refl; ruled = ruled; small = small }
      where
        ruled : (r : Refusal) → IsRefused bureau Enforced db (record { table = table; gone = []; news = new ∷ [] }) r → ⊥
        ruled (rule.Violates Datatype) fails = both (ap (λ b. b && true) (fits.typed db (next_rowid rows))) fails
        ruled (rule.Violates NotNull) fails = both (ap (λ b. b && true) (fits.present db (next_rowid rows))) fails
        ruled (rule.Violates Check) fails = both (ap (λ b. b && true) (fits.checked db (next_rowid rows))) fails
        ruled (rule.Violates PrimaryKey) fails = both fresh fails
        ruled (rule.Violates Unique) fails = fails (unique_kept bureau db after table rows [] (new ∷ []) turned_so unique keeps)
        ruled (rule.Violates ForeignKey) fails = fails
        ruled Mismatch fails = false≢true (sym fails)
        ruled NoRowid fails = both within fails
        ruled BadReference fails = both (ap (λ refs. list_all (is_key_of bureau) refs && true) fits.alone) fails
        ruled TooDeep fails = fails

        small : (row : Row) → Has (new ∷ []) row → IsOversized bureau table row → ⊥
        small row (inl same) (inl big) = big (subst (IsStorableRow (table_reals table)) (sym same) (fits.storable (next_rowid rows)))
        small row (inl same) (inr key) = key.3 (
            subst (λ r. IsStorable (index_reals (table_reals table) key.0.columns) (entry_of key.0.columns r)) (sym same)
            (fits.keys (next_rowid rows) key.0 (has_kept (λ (i : Index). i.table == table.tree) indexes key.0 key.1 (eq-eqb key.0.table table.tree key.2)))
            )
        small row (inr none) big = absurd none

    pub comes_soundly : IsSound db (edit_of db table [] Chosen 0 ((Null ∷ values) ∷ []))
    comes_soundly = subst (λ row. IsSound db (record { table = table; gone = []; news = numbered Chosen rows (row ∷ []) })) (sym fits.cast) fitted
