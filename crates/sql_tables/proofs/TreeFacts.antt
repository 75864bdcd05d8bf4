-- Rows with their rowids and without.
use Rattle.std.proofs.Common.{◌≡◌, ℕ, suc, Bool, cond, true, false, List, [], ◌∷◌, refl, ◌∙◌, ap}
use Rattle.std.specs.Prelude.{drop, filter, map}
use Rattle.sqlite_value.specs.Order.{Row, column}
use Rattle.sql_tables.specs.InTrees.{columns_of}
use Rattle.sql_tables.specs.Stored.{shown}

-- a row's columns come after its rowid
pub column_after : (row : Row) (at : ℕ) → column (drop 1 row) at ≡ column row (suc at)
column_after [] at = refl
column_after (rowid ∷ row) at = refl

pub shown_after : (indices : List ℕ) (row : Row) → shown indices (drop 1 row) ≡ shown (map suc indices) row
shown_after [] row = refl
shown_after (at ∷ indices) row = ap (λ value. value ∷ shown indices (drop 1 row)) (column_after row at) ∙ ap (λ values. column row (suc at) ∷ values) (shown_after indices row)

-- a filter of rows with their rowids is one of rows without
pub filter_after : (with_rowid without : Row → Bool) → ((row : Row) → with_rowid row ≡ without (drop 1 row)) → (rows : List Row)
    → columns_of (filter with_rowid rows) ≡ filter without (columns_of rows)
filter_after with_rowid without alike [] = refl
filter_after with_rowid without alike (row ∷ rows) =
    ap (λ b. columns_of (cond b (row ∷ filter with_rowid rows) (filter with_rowid rows))) (alike row)
    ∙ by (without (drop 1 row)) (filter_after with_rowid without alike rows)
  where
    by : (b : Bool) → columns_of (filter with_rowid rows) ≡ filter without (columns_of rows)
        → columns_of (cond b (row ∷ filter with_rowid rows) (filter with_rowid rows)) ≡ cond b (drop 1 row ∷ filter without (columns_of rows)) (filter without (columns_of rows))
    by true rest = ap (λ others. drop 1 row ∷ others) rest
    by false rest = rest
