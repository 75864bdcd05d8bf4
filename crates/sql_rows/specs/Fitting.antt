-- No part of what is promised: laws of tables cite it. The rows that fit into a table.
use Rattle.std.specs.Prelude.{◌≡◌, ◌==◌, ◌≤◌, ◌+◌, ◌^◌, ◌&&◌, ℕ, ℤ, Bool, List, [], ◌∷◌, ◌++◌, drop, false, filter, length, map, nat_le, nat_lt, slice_index_or, sum_by, true}
use Rattle.std.specs.List.{list_all}
use Rattle.sqlite.specs.Cast.{cast_row}
use Rattle.sqlite.specs.Table.{Table}
use Rattle.sqlite.specs.Tree.{Trees}
use Rattle.sqlite.specs.declared.types.Value.{Value}
use Rattle.sqlite.specs.declared.types.Value.TheVariants.{Blob, Int, Null, Real, Text}
use Rattle.sqlite_rules.specs.Lists.{Has}
use Rattle.sqlite_schema.specs.Rules.{are_present, are_typed, has_computed, index_reals, passes, table_reals}
use Rattle.sqlite_schema.specs.declared.schema.Column.{Column}
use Rattle.sqlite_schema.specs.declared.schema.Constraint.TheVariants.{Check, Datatype, NotNull}
use Rattle.sqlite_schema.specs.declared.schema.Index.{Index}
use Rattle.sqlite_schema.specs.declared.schema.Kind.{Kind}
use Rattle.sqlite_schema.specs.declared.schema.Kind.TheVariants as kind
use Rattle.sqlite_schema.specs.declared.schema.Reference.{Reference}
use Rattle.sqlite_sql.specs.Catalog.{entry_of}
use Rattle.sqlite_trees.specs.View.{IsStorable, IsStorableRow}
use Rattle.sqlite_value.specs.Order.{Row}
use Rattle.sql_texts.specs.Schema.{bureau, indexes}

-- the needs of one row, whatever number it gets
pub record IsFitting (table : Table) (values : Row) : Type 0 where
  pub cast : cast_row table (Null ∷ values) ≡ Null ∷ values
  pub alone : table.references ≡ []
  pub typed : (db : Trees) (n : ℤ) → passes Datatype bureau db table (Int n ∷ values) ≡ true
  pub present : (db : Trees) (n : ℤ) → passes NotNull bureau db table (Int n ∷ values) ≡ true
  pub checked : (db : Trees) (n : ℤ) → passes Check bureau db table (Int n ∷ values) ≡ true
  pub storable : (n : ℤ) → IsStorableRow (table_reals table) (Int n ∷ values)
  pub keys : (n : ℤ) (index : Index) → Has (filter (λ (i : Index). i.table == table.tree) indexes) index
      → IsStorable (index_reals (table_reals table) index.columns) (entry_of index.columns (Int n ∷ values))

-- ---- how that is told

-- a column of this kind keeps this value as it is: a whole number, a text or a blob
abbrev pub is_kept : Kind → Value → Bool
is_kept kind.Integer (Int n) = true
is_kept kind.Text (Text t) = true
is_kept kind.Blob (Blob b) = true
is_kept _ _ = false

abbrev pub are_kept : List Column → Row → Bool
are_kept [] [] = true
are_kept (column ∷ columns) (value ∷ values) = is_kept column.kind value && are_kept columns values
are_kept _ _ = false

-- the values after the rowid are of the columns' kinds, and none is missing
abbrev pub is_of_kinds : Table → Row → Bool
is_of_kinds table row =
    are_kept table.columns (drop 1 row)
    && ((are_typed table.key 0 table.columns (drop 1 row) && has_computed table row) && are_present table.key 0 table.columns row)

-- a text or a blob has at most so many bytes
abbrev pub IsWithin : ℕ → Value → Type 0
IsWithin most Null = ⊥
IsWithin most (Int n) = Unit {0}
IsWithin most (Real x) = ⊥
IsWithin most (Text t) = length t ≤ most
IsWithin most (Blob b) = length b ≤ most

-- each has at most so many
abbrev pub AreWithin : List ℕ → Row → Type 0
AreWithin [] [] = Unit {0}
AreWithin [] (value ∷ values) = ⊥
AreWithin (most ∷ bounds) [] = ⊥
AreWithin (most ∷ bounds) (value ∷ values) = IsWithin most value × AreWithin bounds values

-- values of so many bytes fit into one row, or into one entry of an index
abbrev pub fit_together : List ℕ → Bool
fit_together bounds =
    nat_lt 0 (length bounds) && (nat_le (length bounds) 2001 && nat_le (sum_by (λ most. 18 + most) bounds) (10 ^ 9))

-- the numbers of bytes of the values of an entry, which ends with the rowid
abbrev pub entry_bounds : List ℕ → List ℕ → List ℕ
entry_bounds bounds columns = map (λ place. slice_index_or bounds place 0) columns ++ 0 ∷ []

abbrev pub fit_in_entry : List ℕ → Index → Bool
fit_in_entry bounds index =
    list_all (λ place. nat_lt place (length bounds)) index.columns && fit_together (entry_bounds bounds index.columns)

abbrev pub has_none : List Reference → Bool
has_none [] = true
has_none (reference ∷ references) = false

-- a table that refers to no other and has no REAL column takes rows whose values have so many bytes, and so do its indexes
abbrev pub takes : Table → List ℕ → Bool
takes table bounds =
    has_none table.references
    && ((table_reals table == 0) && (nat_lt 0 (length bounds) && (fit_together (0 ∷ bounds)
    && list_all (fit_in_entry (0 ∷ bounds)) (filter (λ (i : Index). i.table == table.tree) indexes))))
