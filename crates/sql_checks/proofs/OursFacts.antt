-- A database with the bureau's tables, whose rows keep to them, is the bureau's own.
use Rattle.std.proofs.Common.{◌≡◌, ◌&&◌, ℕ, Bool, true, false, List, [], ◌∷◌, get_or, length, drop, take, refl, sym, ◌∙◌, ap, subst, IsTrue, None, Some, pos}
use Rattle.std.specs.Prelude.{codes, map, not, slice_get}
use Rattle.std.specs.List.{AllByRecursion, list_all}
use Rattle.std.specs.FinMap.{int_cmp-IsAntisymmetric}
use Rattle.std.specs.Ordering.{int_cmp, is_eq}
use Rattle.std.specs.declared.cmp.Ordering.{Ordering}
use Rattle.std.specs.declared.cmp.Ordering.TheVariants.{Less, Equal, Greater}
use Rattle.std.proofs.lemmas.Bool.{and_parts, not-true}
use Rattle.sqlite.specs.Effect.{Database, IsDatabase}
use Rattle.sqlite.specs.Table.{Table}
use Rattle.sqlite.specs.Tree.{Trees, rowid}
use Rattle.sqlite.specs.View.{is_int}
use Rattle.sqlite_catalog.specs.Listing.{IsSound}
use Rattle.sqlite_schema.specs.Rules.{agree, are_present, are_typed, clashes, guards, has_computed, passes_checks, suits}
use Rattle.sqlite_schema.specs.declared.schema.Column.{Column}
use Rattle.sqlite_schema.specs.declared.schema.Index.{Index}
use Rattle.sqlite_schema.specs.declared.schema.Constraint.TheVariants.{Check, Datatype, NotNull, Unique}
use Rattle.sqlite_sql.specs.Ops.{binary, from_truth, is_false, is_null}
use Rattle.sqlite_sql.specs.declared.ops.BinaryOp.TheVariants.{Compare}
use Rattle.sqlite_sql.specs.declared.ops.CompareOp.TheVariants.{Eq}
use Rattle.sqlite.specs.Collation.TheVariants.{Binary}
use Rattle.sqlite_value.proofs.OrderLemmas.{value_cmp-Int}
use Rattle.sqlite_value.specs.Keys.{plain}
use Rattle.sqlite_value.specs.Order.{Row, column}
use Rattle.sqlite_value.specs.declared.value.Value.{Value}
use Rattle.sqlite_value.specs.declared.value.Value.TheVariants.{Null, Int, Real, Text, Blob}
use Rattle.sql_tables.specs.Numbered.{AreNumbered, IsNumbered}
use Rattle.sql_tables.specs.Ours.{IsOurs, held_by, version_rows}
use Rattle.sql_tables.specs.InTrees.{columns_of, stored_in}
use Rattle.sql_tables.specs.Fit.{IsHold, IsRecord}
use Rattle.sql_tables.specs.Rows.{hold_row, sysmod_row}
use Rattle.sql_tables.specs.Values.{hold_kind_value, id_value}
use Rattle.sql_tables.specs.Whole.{AreRowsOf, HaveOwnKeys, IsHead, IsWhole, IsZoneSysmod, row_of_head, row_of_zone_sysmod}
use Rattle.sql_texts.specs.Found.{shown}
use Rattle.sql_texts.specs.Schema as made
use Rattle.sql_texts.specs.Schema.{bureau, tables}
use Rattle.sql_rows.proofs.TableFacts.{at_index}
use Rattle.sql_reads.proofs.LengthFacts.{all_two}
use Rattle.sql_checks.specs.Kept.{AreKept, table_of}
use Rattle.sql_checks.specs.declared.table.StoreTable.{StoreTable}
use Rattle.sql_checks.specs.declared.table.StoreTable.TheVariants.{Caller, Sysmod, SysmodSup, SysmodCond, HoldRow, ZoneHead, ZoneRow}
use Rattle.sql_checks.proofs.KeyFacts.{HavePlain, agree_one, agree_three, agree_two, own_keys, plain_id, plain_kind}
use Rattle.sql_checks.proofs.RowFacts.{IsFull, caller_of, condition_of, head_of, hold_of, member_of, record_of, zone_sysmod_of}
use Rattle.sql_checks.proofs.TypedFacts.{AreRequired, full}

-- ---- all of some rows

-- what holds of each row of something fit holds of these rows
rows_so : {X : Type 0} (row_of : X → Row) (Fits : X → Type 0) (P : Row → Type 0) → ((x : X) → P (row_of x)) → (rows : List Row) → AreRowsOf row_of Fits rows → AllByRecursion P rows
rows_so row_of Fits P each [] are = tt
rows_so row_of Fits P each (row ∷ rows) are = (subst P (sym are.0.2) (each are.0.0), rows_so row_of Fits P each rows are.1)

-- ---- what the rules of a table say of its rows

full_rows : (columns : List Column) → AreRequired columns → (computed : Row → Bool) (rows : List Row)
    → AllByRecursion (λ row. (are_typed None 0 columns (drop 1 row) && computed row) ≡ true) rows → AllByRecursion (λ row. are_present None 0 columns row ≡ true) rows
    → AllByRecursion (λ row. length row ≡ length columns) (columns_of rows)
full_rows columns required computed [] typed present = tt
full_rows columns required computed (row ∷ rows) typed present =
    (full columns required row (and_parts (are_typed None 0 columns (drop 1 row)) (computed row) typed.0).0 present.0, full_rows columns required computed rows typed.1 present.1)

all_listed : {X : Type 0} (test : X → Bool) (xs : List X) → list_all test xs ≡ true → AllByRecursion (λ x. test x ≡ true) xs
all_listed test [] h = tt
all_listed test (x ∷ xs) h = let parts = and_parts (test x) (list_all test xs) h in (parts.0, all_listed test xs parts.1)

-- ---- the version

-- the rowid of the one row is 1
one_is : (n : _) → not (is_false (binary (Compare Eq Binary) (Int n) (Int (pos 1)))) ≡ true → n ≡ pos 1
unfolding binary
one_is n h = by (int_cmp n (pos 1)) refl (subst (λ o. not (is_false (from_truth (Some (is_eq o)))) ≡ true) (value_cmp-Int n (pos 1)) h)
  where
    by : (o : Ordering) → int_cmp n (pos 1) ≡ o → not (is_false (from_truth (Some (is_eq o)))) ≡ true → n ≡ pos 1
    by Less is e = cc
    by Equal is e = int_cmp-IsAntisymmetric n (pos 1) is
    by Greater is e = cc

too_many : (first second more : Value) (row : Row) → are_typed (Some 0) 0 made.bureau_version.columns (first ∷ second ∷ more ∷ row) ≡ true → false ≡ true
too_many first second more row h = (and_parts (suits (made.number_column (codes "version")) second) false (and_parts (is_null first) (suits (made.number_column (codes "version")) second && false) h).1).1

version_row : (row : Row) → IsTrue (is_int (rowid row)) → (are_typed (Some 0) 0 made.bureau_version.columns (drop 1 row) && has_computed made.bureau_version row) ≡ true
    → passes_checks made.bureau_version row ≡ true → column row 2 ≡ Int (pos 2) → row ≡ Int (pos 1) ∷ Null ∷ Int (pos 2) ∷ []
version_row [] int typed checks two = cc
version_row (Int n ∷ []) int typed checks two = cc
version_row (Int n ∷ one ∷ []) int typed checks two = cc
version_row (Int n ∷ Null ∷ version ∷ []) int typed checks two =
    let rowid_is : n ≡ pos 1 = one_is n (and_parts (not (is_false (binary (Compare Eq Binary) (Int n) (Int (pos 1))))) true checks).0 in
    ap (λ m. Int m ∷ Null ∷ version ∷ []) rowid_is ∙ ap (λ v. Int (pos 1) ∷ Null ∷ v ∷ []) two
version_row (Int n ∷ Int m ∷ version ∷ []) int typed checks two = cc
version_row (Int n ∷ Real x ∷ version ∷ []) int typed checks two = cc
version_row (Int n ∷ Text t ∷ version ∷ []) int typed checks two = cc
version_row (Int n ∷ Blob b ∷ version ∷ []) int typed checks two = cc
version_row (Int n ∷ one ∷ version ∷ more ∷ row) int typed checks two =
    let never = too_many one version more row (and_parts (are_typed (Some 0) 0 made.bureau_version.columns (one ∷ version ∷ more ∷ row)) (has_computed made.bureau_version (Int n ∷ one ∷ version ∷ more ∷ row)) typed).0 in cc
version_row (Null ∷ row) int typed checks two = cc
version_row (Real x ∷ row) int typed checks two = cc
version_row (Text t ∷ row) int typed checks two = cc
version_row (Blob b ∷ row) int typed checks two = cc

version_is : (rows : List Row) → AllByRecursion (λ row. IsTrue (is_int (rowid row))) rows
    → AllByRecursion (λ row. (are_typed (Some 0) 0 made.bureau_version.columns (drop 1 row) && has_computed made.bureau_version row) ≡ true) rows
    → AllByRecursion (λ row. passes_checks made.bureau_version row ≡ true) rows → map (shown (2 ∷ [])) rows ≡ (Int (pos 2) ∷ []) ∷ [] → rows ≡ version_rows 2
version_is [] ints typed checks h = cc
version_is (row ∷ []) ints typed checks h =
    ap (λ r. r ∷ []) (version_row row ints.0 typed.0 checks.0 (ap (λ rows. column (first_of rows) 0) h))
  where
    first_of : List Row → Row
    first_of [] = []
    first_of (r ∷ rs) = r
version_is (row ∷ other ∷ rows) ints typed checks h = cc

-- ---- one of the tables, and one of the indexes

abbrev index_at : ℕ → Index
index_at place = get_or made.indexes place made.by_member

-- The rows of a table clash with none by an index of it.
module _ (rows : List Row) (t : Table) (place : ℕ) (at : slice_get made.indexes place ≡ Some (index_at place))
    (guarded : guards (index_at place) t ≡ true) (ascends : (index_at place).order ≡ plain) where
  free : (later : List Row) → AllByRecursion (λ row. list_all (λ i. not (guards i t && clashes i.order i.columns rows row)) made.indexes ≡ true) later
      → AllByRecursion (λ row. clashes plain (index_at place).columns rows row ≡ false) later
  free [] all = tt
  free (row ∷ later) all =
      let passed =
      at_index (λ (i : Index). not (guards i t && clashes i.order i.columns rows row) ≡ true) made.indexes place (index_at place) at
      (all_listed (λ (i : Index). not (guards i t && clashes i.order i.columns rows row)) made.indexes all.0) in (
        not-true (clashes plain (index_at place).columns rows row)
            (subst (λ order. not (clashes order (index_at place).columns rows row) ≡ true) ascends
            (subst (λ b. not (b && clashes (index_at place).order (index_at place).columns rows row) ≡ true) guarded passed)),
        free later all.1,
      )

module _ (trees : Trees) (sound : IsSound bureau trees) (numbered : AreNumbered trees) (kept : AreKept (stored_in trees)) where
  typed : AllByRecursion (λ (t : Table). AllByRecursion (λ row. (are_typed t.key 0 t.columns (drop 1 row) && has_computed t row) ≡ true) (trees t.tree)) tables
  typed = sound.obeys.rules Datatype

  present : AllByRecursion (λ (t : Table). AllByRecursion (λ row. are_present t.key 0 t.columns row ≡ true) (trees t.tree)) tables
  present = sound.obeys.rules NotNull

  unique : AllByRecursion (λ (t : Table). AllByRecursion (λ row. list_all (λ i. not (guards i t && clashes i.order i.columns (trees t.tree) row)) made.indexes ≡ true) (trees t.tree)) tables
  unique = sound.obeys.rules Unique

  -- all rows of a table have all columns, where no column is the rowid, and none may be NULL
  all_full : (which : StoreTable) (place : ℕ) → slice_get tables place ≡ Some (table_of which) → (table_of which).key ≡ None
      → list_all (λ (c : Column). c.not_null) (table_of which).columns ≡ true → AllByRecursion (IsFull which) (columns_of (trees (table_of which).tree))
  all_full which place at keyless required =
      let t = table_of which in
      full_rows t.columns (all_listed (λ (c : Column). c.not_null) t.columns required) (has_computed t) (trees t.tree)
      (subst (λ key. AllByRecursion (λ row. (are_typed key 0 t.columns (drop 1 row) && has_computed t row) ≡ true) (trees t.tree)) keyless
      (at_index (λ (t : Table). AllByRecursion (λ row. (are_typed t.key 0 t.columns (drop 1 row) && has_computed t row) ≡ true) (trees t.tree)) tables place t at typed))
      (subst (λ key. AllByRecursion (λ row. are_present key 0 t.columns row ≡ true) (trees t.tree)) keyless
      (at_index (λ (t : Table). AllByRecursion (λ row. are_present t.key 0 t.columns row ≡ true) (trees t.tree)) tables place t at present))

  -- no two rows of a table have one key, where its columns are plain
  keys : (which : StoreTable) (place : ℕ) → slice_get tables place ≡ Some (table_of which) → (index k : ℕ) → slice_get made.indexes index ≡ Some (index_at index)
      → guards (index_at index) (table_of which) ≡ true → (index_at index).order ≡ plain
      → ((a b : Row) → HavePlain k (drop 1 a) → take k (drop 1 a) ≡ take k (drop 1 b) → agree plain (index_at index).columns a (index_at index).columns b ≡ true)
      → AllByRecursion (HavePlain k) (columns_of (trees (table_of which).tree)) → HaveOwnKeys k (columns_of (trees (table_of which).tree))
  keys which place at index k found guarded ascends agrees are_plain =
      let t = table_of which in
      own_keys k (index_at index).columns agrees (trees t.tree) (at_index (λ (t : Table). IsNumbered (trees t.tree)) tables place t at numbered) are_plain
      (free (trees t.tree) t index found guarded ascends (trees t.tree)
      (at_index (λ (t : Table). AllByRecursion (λ row. list_all (λ i. not (guards i t && clashes i.order i.columns (trees t.tree) row)) made.indexes ≡ true) (trees t.tree)) tables place t at unique))

  -- ---- the rows of each table that has a key to be told apart by

  sysmods : AreRowsOf sysmod_row IsRecord (columns_of (trees 6))
  sysmods = all_two _ _ _ record_of (columns_of (trees 6)) (kept Sysmod) (all_full Sysmod 3 refl refl refl)

  holds : AreRowsOf hold_row IsHold (columns_of (trees 11))
  holds = all_two _ _ _ hold_of (columns_of (trees 11)) (kept HoldRow) (all_full HoldRow 5 refl refl refl)

  heads : AreRowsOf row_of_head IsHead (columns_of (trees 13))
  heads = all_two _ _ _ head_of (columns_of (trees 13)) (kept ZoneHead) (all_full ZoneHead 6 refl refl refl)

  zone_rows : AreRowsOf row_of_zone_sysmod IsZoneSysmod (columns_of (trees 15))
  zone_rows = all_two _ _ _ zone_sysmod_of (columns_of (trees 15)) (kept ZoneRow) (all_full ZoneRow 7 refl refl refl)

  sysmod_keys : HaveOwnKeys 1 (columns_of (trees 6))
  sysmod_keys =
      keys Sysmod 3 refl 3 1 refl refl refl agree_one
      (rows_so sysmod_row IsRecord (HavePlain 1) (λ sysmod. (plain_id (id_value sysmod.id) sysmod.id refl, tt)) (columns_of (trees 6)) sysmods)

  hold_keys : HaveOwnKeys 3 (columns_of (trees 11))
  hold_keys =
      keys HoldRow 5 refl 6 3 refl refl refl agree_three
      (rows_so hold_row IsHold (HavePlain 3) (λ hold. (plain_id (id_value hold.key.sysmod) hold.key.sysmod refl, (plain_kind (hold_kind_value hold.key.kind) hold.key.kind refl, (plain_id (id_value hold.key.reason) hold.key.reason refl, tt))))
      (columns_of (trees 11)) holds)

  head_keys : HaveOwnKeys 2 (columns_of (trees 13))
  head_keys =
      keys ZoneHead 6 refl 7 2 refl refl refl agree_two
      (rows_so row_of_head IsHead (HavePlain 2) (λ head. (plain_id (id_value head.client) head.client refl, (plain_id (id_value head.zone) head.zone refl, tt))) (columns_of (trees 13)) heads)

  row_keys : HaveOwnKeys 3 (columns_of (trees 15))
  row_keys =
      keys ZoneRow 7 refl 8 3 refl refl refl agree_three
      (rows_so row_of_zone_sysmod IsZoneSysmod (HavePlain 3) (λ one. (plain_id (id_value one.client) one.client refl, (plain_id (id_value one.zone) one.zone refl, (plain_id (id_value one.row.sysmod) one.row.sysmod refl, tt))))
      (columns_of (trees 15)) zone_rows)

  pub whole : IsWhole (stored_in trees)
  whole = record {
    callers = all_two _ _ _ caller_of (columns_of (trees 1)) (kept Caller) (all_full Caller 1 refl refl refl);
    sysmods = sysmods;
    sysmod_keys = sysmod_keys;
    sups = all_two _ _ _ member_of (columns_of (trees 8)) (kept SysmodSup) (all_full SysmodSup 4 refl refl refl);
    conds = all_two _ _ _ condition_of (columns_of (trees 19)) (kept SysmodCond) (all_full SysmodCond 9 refl refl refl);
    holds = holds;
    hold_keys = hold_keys;
    heads = heads;
    head_keys = head_keys;
    rows = zone_rows;
    row_keys = row_keys;
  }

  checked : AllByRecursion (λ (t : Table). AllByRecursion (λ row. passes_checks t row ≡ true) (trees t.tree)) tables
  checked = sound.obeys.rules Check

  pub version : map (shown (2 ∷ [])) (trees 0) ≡ (Int (pos 2) ∷ []) ∷ [] → trees 0 ≡ version_rows 2
  version = version_is (trees 0) numbered.0.1 typed.0 checked.0

-- the database is ours
pub ours : (database : Database) → IsDatabase database → database.schema ≡ bureau → AreNumbered database.trees → map (shown (2 ∷ [])) (database.trees 0) ≡ (Int (pos 2) ∷ []) ∷ []
    → AreKept (held_by database) → IsOurs database
ours database obeys is numbered told kept =
    let sound : IsSound bureau database.trees = subst (λ schema. IsSound schema database.trees) is obeys in record {
      schema = is;
      rows = record {
        sound = sound;
        numbered = numbered;
        version = version database.trees sound numbered kept told;
        whole = whole database.trees sound numbered kept;
      };
    }
