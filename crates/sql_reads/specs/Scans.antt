-- No part of what is promised: private contracts cite it. The rows of many ids, read at once in the order of the ids.
use Rattle.std.specs.Prelude.{◌≡◌, ◌≢◌, ℕ, suc, Bool, List, [], ◌∷◌, filter, map}
use Rattle.std.specs.Cmp.Lexicographic.{slice_cmp}
use Rattle.std.specs.List.{AllByRecursion}
use Rattle.std.specs.List.Sorted.{IsPermutation}
use Rattle.std.specs.Ordering.{nat_cmp}
use Rattle.std.specs.Str.{bytes_eq}
use Rattle.std.specs.declared.cmp.Ordering.TheVariants.{Greater, Less}
use Rattle.sqlite.specs.Collation.TheVariants.{Binary}
use Rattle.sqlite.specs.Query.{Query}
use Rattle.sqlite.specs.Term.{Term, col, op2}
use Rattle.sqlite_sql.specs.declared.ops.BinaryOp.TheVariants.{Compare}
use Rattle.sqlite_sql.specs.declared.ops.CompareOp.TheVariants.{Ge, Le}
use Rattle.sqlite_value.specs.Order.{Row, column}
use Rattle.mcs_reader.specs.Id.{IsId, text_of}
use Rattle.sql_tables.specs.Stored.{Stored, is_of, shown}
use Rattle.sql_tables.specs.Values.{text_in}
use Rattle.sql_texts.specs.Reads.{from_table}
use Rattle.sql_texts.specs.Schema as schema
use Rattle.sql_reads.specs.Columns.{indices_of}
use Rattle.sql_reads.specs.Runs.{TextsAscend}
use Rattle.sql_reads.specs.declared.many.Queues.{Queues}

-- ---- what is asked

-- the first column is the first parameter or beyond, and the second parameter or before it
abbrev pub between_given : List Term
between_given = op2 (Compare Ge Binary) (col 1 1) (col 0 0) ∷ op2 (Compare Le Binary) (col 1 1) (col 0 1) ∷ []

-- from the rows in a tree between the two, the columns at these indices without the rowid, ordered by others
abbrev pub scan_of : ℕ → List ℕ → List ℕ → Query
scan_of tree columns order = from_table tree between_given (map suc columns) order

-- ---- what is found

-- the text in a column of a row
abbrev pub key_at : ℕ → Row → List ℕ
key_at place row = text_in (column row place)

abbrev pub has_key : ℕ → List ℕ → Row → Bool
has_key place text row = bytes_eq (key_at place row) text

-- no row's key is above the next one's
abbrev pub KeysRise : ℕ → List Row → Type 0
KeysRise place [] = Unit {0}
KeysRise place (row ∷ []) = Unit {0}
KeysRise place (row ∷ next ∷ rows) =
    (slice_cmp nat_cmp (key_at place row) (key_at place next) ≢ Greater) × KeysRise place (next ∷ rows)

-- the rows of an id, as these columns of a table's rows show them
abbrev pub AreOf : List ℕ → List Row → List ℕ → List Row → Type 0
AreOf columns table id rows = IsPermutation (map (shown columns) (filter (is_of id) table)) rows

-- Rows in the order of the ids, which are in the column at a place. For each of these ids, which ascend, they are exactly
-- the table's.
pub record HaveEach (columns : List ℕ) (place : ℕ) (table : List Row) (ids : List (List ℕ)) (rows : List Row) : Type 0 where
  pub ascend : TextsAscend ids
  pub rises : KeysRise place rows
  pub each : AllByRecursion (λ id. IsId id → AreOf columns table id (filter (has_key place (text_of id)) rows)) ids

-- ---- taken by the ids

-- The rows of one key are taken, and those before them passed over: what is left has all rows of each later key.
pub record IsCut (place : ℕ) (text : List ℕ) (rows mine left : List Row) : Type 0 where
  pub taken : mine ≡ filter (has_key place text) rows
  pub rises : KeysRise place left
  pub stays : (later : List ℕ) → slice_cmp nat_cmp text later ≡ Less
      → filter (has_key place later) left ≡ filter (has_key place later) rows

-- The rows of an id are taken from the front, and those of the ids after it are left.
abbrev pub Takes : List ℕ → ℕ → List ℕ → List Row → List Row → List Row → Type 0
Takes columns place id rows mine left =
    (table : List Row) (later : List (List ℕ)) → HaveEach columns place table (id ∷ later) rows
    → AreOf columns table id mine × HaveEach columns place table later left

-- Each table of a SYSMOD's data has all rows of these ids left.
pub record AreLeft (stored : Stored) (ids : List (List ℕ)) (queues : Queues) : Type 0 where
  pub of_records : HaveEach (indices_of schema.sysmod) 0 stored.sysmods ids queues.records.rows.now
  pub of_sups : HaveEach (1 ∷ 0 ∷ []) 1 stored.sups ids queues.sups.rows.now
  pub of_conds : HaveEach (1 ∷ 2 ∷ 0 ∷ []) 2 stored.conds ids queues.conds.rows.now
  pub of_holds : HaveEach (indices_of schema.hold_row) 0 stored.holds ids queues.holds.rows.now
