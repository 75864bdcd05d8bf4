-- The rules of each row of a store: the bureau writes such rows, and a read takes them. Each table's file in `src/table/`
-- has the rules of its columns (`keeps_to`).
use Rattle.std.specs.Prelude.{ℕ, List}
use Rattle.sqlite.specs.Table.{Table}
use Rattle.sqlite_value.specs.Order.{Row}
use Rattle.sql_tables.specs.Stored.{Stored}
use Rattle.sql_checks.specs.Known.{AllKeep, Known}
use Rattle.sql_checks.specs.contracts.table.StoreTableListed.TheImpl.{known-value}
use Rattle.sql_checks.specs.declared.table.StoreTable.{StoreTable}

-- the facts on a table
abbrev pub known_of : StoreTable → Known
known_of = known-value.it

abbrev pub table_of : StoreTable → Table
table_of table = (known_of table).table

abbrev pub table_name : StoreTable → List ℕ
table_name table = (table_of table).name

-- ---- what the rows keep to

abbrev pub KeepsTo : StoreTable → Row → Type 0
KeepsTo table = (known_of table).Keeps

-- all rows of a table keep to its rules
abbrev pub KeepTo : StoreTable → Stored → Type 0
KeepTo table = AllKeep (known_of table)

-- all rows of all tables do
abbrev pub AreKept : Stored → Type 0
AreKept stored = (table : StoreTable) → KeepTo table stored
