-- The columns of a row, and the facts on a table. The file of each table has the rules of its rows.
use Rattle.std.specs.Prelude.{◌≡◌, ℕ, List, IsSome, IsTrue, Some}
use Rattle.std.specs.List.{AllByRecursion}
use Rattle.bureau_store.specs.Callers.{is_token}
use Rattle.bureau_store.specs.Tables.{PatternsAscend}
use Rattle.catalogue.specs.Ids.{Ascend}
use Rattle.sqlite.specs.Query.{Query}
use Rattle.sqlite.specs.Table.{Table}
use Rattle.sqlite_value.specs.Order.{Row, column}
use Rattle.sql_tables.specs.Stored.{Stored}
use Rattle.sql_tables.specs.Values.{id_in, ids_in, patterns_in, text_in}
use Rattle.sql_texts.specs.Schema.{columns_of}
use Rattle.sql_reads.specs.Columns.{all_of}

-- ---- what stands in a column

abbrev pub IsIdColumn : Row → ℕ → Type 0
IsIdColumn row index = IsSome (id_in (column row index))

-- the text of a token
abbrev pub IsTokenColumn : Row → ℕ → Type 0
IsTokenColumn row index = IsTrue (is_token (text_in (column row index)))

-- a list of ids that ascend, each once
abbrev pub AreIdsColumn : Row → ℕ → Type 0
AreIdsColumn row index = (ids : List (List ℕ)) × (ids_in (column row index) ≡ Some ids) × Ascend ids

-- a list of patterns of fix categories that ascend, each once
abbrev pub ArePatternsColumn : Row → ℕ → Type 0
ArePatternsColumn row index = (patterns : List (List ℕ)) × (patterns_in (column row index) ≡ Some patterns) × PatternsAscend patterns

-- ---- a table

pub record Known : Type 1 where
  -- as the database makes it
  pub table : Table
  -- its rows
  pub rows : Stored → List Row
  -- the rules of each of them
  pub Keeps : Row → Type 0

-- a table with these rows and these rules
abbrev pub known_by : Table → (Stored → List Row) → (Row → Type 0) → Known
known_by table rows keeps_to = record { table = table; rows = rows; Keeps = keeps_to }

-- the names of its columns
abbrev pub names_of : Known → List (List ℕ)
names_of known = columns_of known.table

-- the query of all its rows, with all columns
abbrev pub query_of : Known → Query
query_of known = all_of known.table

-- all its rows keep to its rules
abbrev pub AllKeep : Known → Stored → Type 0
AllKeep known stored = AllByRecursion known.Keeps (known.rows stored)
