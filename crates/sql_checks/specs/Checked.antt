-- The findings of a check of a database.
use Rattle.std.specs.Prelude.{◌≡◌, List, [], ◌∷◌, IsTrue, None, Some, Option, Result, IfOk, map, pos}
use Rattle.bureau_store.specs.Callers.{has_publisher}
use Rattle.std.specs.List.{AllByRecursion}
use Rattle.sqlite.specs.Effect.{Database}
use Rattle.sqlite.specs.Schema.{Schema}
use Rattle.sqlite.specs.State.{HasCleanDisk, State}
use Rattle.sqlite_value.specs.declared.value.Value.TheVariants.{Int}
use Rattle.sql_tables.specs.Numbered.{AreNumbered}
use Rattle.sql_tables.specs.Ours.{IsOurs, held_by}
use Rattle.sql_tables.specs.Reading.{OnlyReads}
use Rattle.sql_tables.specs.Stored.{Stored, tables_of}
use Rattle.sql_texts.specs.Found.{shown}
use Rattle.sql_texts.specs.Schema.{bureau}
use Rattle.sql_checks.specs.Kept.{AreKept, KeepTo}
use Rattle.sql_checks.specs.Order.{ListsAll}
use Rattle.sql_checks.specs.declared.checking.Finding.{Finding}
use Rattle.sql_checks.specs.declared.checking.Finding.TheVariants.{Whole, OtherTables, OtherOrder, OtherVersion, WrongRow, NoPublisher}
use Rattle.sql_checks.specs.declared.table.StoreTable.{StoreTable}

-- A look at a connection at rest. If it was open, it stays open. The answer is true of the committed database, if that has
-- the bureau's tables.
pub record Looks {Answer Fault : Type 0} (old new : State) (result : Result Answer Fault) (Fact : Database → Answer → Type 0) : Type 0 where
  pub reads : OnlyReads old new
  pub is_open : IfOk result (λ answer. HasCleanDisk new → IsTrue old.is_open → IsTrue new.is_open)
  pub told : IfOk result (λ answer. HasCleanDisk new → IsTrue old.is_open → old.committed.schema ≡ bureau → Fact old.committed answer)

-- the table of the version has one row, which has 2
abbrev pub TellsVersion2 : Database → Type 0
TellsVersion2 database = map (shown (2 ∷ [])) (database.trees 0) ≡ (Int (pos 2) ∷ []) ∷ []

-- no table has a wrong row; or the one in the answer has
abbrev pub WrongIn : List StoreTable → Stored → Option StoreTable → Type 0
WrongIn tables stored None = AllByRecursion (λ table. KeepTo table stored) tables
WrongIn tables stored (Some table) = KeepTo table stored → ⊥

-- the database is the bureau's own, provided that its rows have numbers that rise: every store of the toolchain keeps rows
-- so, which no clause on a connection says
abbrev pub IsOursIfNumbered : Database → Type 0
IsOursIfNumbered database = AreNumbered database.trees → IsOurs database

-- one of its callers has the publisher's name
abbrev pub HasPublisher : Database → Type 0
HasPublisher database = IsTrue (has_publisher (tables_of (held_by database)).callers)

-- The tables and indexes are the bureau's own, in another order than it lists them; or they are others.
abbrev pub AreOthers : Schema → Finding → Type 0
AreOthers schema Whole = ⊥
AreOthers schema OtherTables = ListsAll schema → ⊥
AreOthers schema OtherOrder = ListsAll schema
AreOthers schema OtherVersion = ⊥
AreOthers schema (WrongRow table) = ⊥
AreOthers schema NoPublisher = ⊥

-- The finding is true. The database is the bureau's own, a read takes each of its rows, and it has a publisher; or its tables and
-- indexes are others, or are listed in another order; or it has the bureau's tables, and they have another version, or the table in
-- the answer has a row of another kind, or no caller is the publisher.
abbrev pub IsFound : Database → Finding → Type 0
IsFound database Whole = IsOursIfNumbered database × AreKept (held_by database) × HasPublisher database
IsFound database OtherTables = (database.schema ≡ bureau → ⊥) × (ListsAll database.schema → ⊥)
IsFound database OtherOrder = (database.schema ≡ bureau → ⊥) × ListsAll database.schema
IsFound database OtherVersion = (database.schema ≡ bureau) × (TellsVersion2 database → ⊥)
IsFound database (WrongRow table) = (database.schema ≡ bureau) × (KeepTo table (held_by database) → ⊥)
IsFound database NoPublisher = (database.schema ≡ bureau) × (HasPublisher database → ⊥)

-- A look at a connection at rest, whatever tables it has. If it was open, it stays open. The answer is true of the committed
-- database.
pub record Finds {Answer Fault : Type 0} (old new : State) (result : Result Answer Fault) (Fact : Database → Answer → Type 0) : Type 0 where
  pub reads : OnlyReads old new
  pub is_open : IfOk result (λ answer. HasCleanDisk new → IsTrue old.is_open → IsTrue new.is_open)
  pub told : IfOk result (λ answer. HasCleanDisk new → IsTrue old.is_open → Fact old.committed answer)

-- ---- No part of what is promised: private contracts cite it. What is seen of a database with the bureau's tables.

abbrev pub IsSeen : Database → Finding → Type 0
IsSeen database Whole = TellsVersion2 database × AreKept (held_by database) × HasPublisher database
IsSeen database OtherTables = ⊥
IsSeen database OtherOrder = ⊥
IsSeen database OtherVersion = TellsVersion2 database → ⊥
IsSeen database (WrongRow table) = KeepTo table (held_by database) → ⊥
IsSeen database NoPublisher = HasPublisher database → ⊥

abbrev pub IsRowSeen : Database → Finding → Type 0
IsRowSeen database Whole = AreKept (held_by database) × HasPublisher database
IsRowSeen database OtherTables = ⊥
IsRowSeen database OtherOrder = ⊥
IsRowSeen database OtherVersion = ⊥
IsRowSeen database (WrongRow table) = KeepTo table (held_by database) → ⊥
IsRowSeen database NoPublisher = HasPublisher database → ⊥

abbrev pub IsPublisherSeen : Database → Finding → Type 0
IsPublisherSeen database Whole = HasPublisher database
IsPublisherSeen database OtherTables = ⊥
IsPublisherSeen database OtherOrder = ⊥
IsPublisherSeen database OtherVersion = ⊥
IsPublisherSeen database (WrongRow table) = ⊥
IsPublisherSeen database NoPublisher = HasPublisher database → ⊥
