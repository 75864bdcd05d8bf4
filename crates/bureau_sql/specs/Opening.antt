-- Why a connection isn't taken for a store, or its file isn't made one of version 2.
use Rattle.std.specs.Prelude.{◌≡◌, ◌≢◌, ◌≤◌, ◌⊎◌, ℕ, IsTrue, List, [], ◌∷◌, Ok, Option, Some, codes, length, map}
use Rattle.std.specs.Borrow.{Bor}
use Rattle.std.specs.List.{AllByRecursion, Contains}
use Rattle.bureau_store.specs.declared.fault.StoreFault.{StoreFault}
use Rattle.bureau_store.specs.declared.fault.StoreFault.TheVariants.{Device, Memory, Shape, Size, Version}
use Rattle.sqlite.specs.Effect.{Database}
use Rattle.sqlite.specs.Listing.{understood}
use Rattle.sqlite.specs.Query.{Query}
use Rattle.sqlite.specs.Schema.{Schema}
use Rattle.sqlite.specs.State.{State, store_error}
use Rattle.sqlite.specs.Table.{Table}
use Rattle.sqlite.specs.declared.error.Error.{Error}
use Rattle.sqlite_resolve.specs.declared.compiled.Compiled.{Compiled}
use Rattle.sqlite_trees.specs.declared.error.StoreError.{StoreError}
use Rattle.sqlite_trees.specs.declared.error.StoreError.TheVariants.{Broken, Corrupt, Full, Io, OutOfMemory, Unstorable}
use Rattle.sql_reads.specs.Columns.{all_of, tables_of_version_1}
use Rattle.sql_reads.specs.Version.{HasVersion, WithholdsVersion}
use Rattle.bureau_sql.specs.Failing.{CannotWrite}
use Rattle.sql_tables.specs.Earlier.{IsOfVersion1}
use Rattle.sql_tables.specs.Ours.{IsOurs}
use Rattle.sql_tables.specs.Reading.{HasFailed}
use Rattle.sql_texts.specs.Meaning.{MakesTable, Reads}
use Rattle.sql_texts.specs.Reads as read
use Rattle.sql_texts.specs.Schema.{bureau, bureau_1, columns_of, sysmod_cond}

-- ---- what is there where a connection is taken

-- the text means something under these tables
abbrev pub IsUnderstood : Schema → List ℕ → Type 0
IsUnderstood schema text = (compiled : Compiled) × (understood schema text ≡ Ok compiled)

-- a question to the bureau's tables: a query, the names of its columns, and the number of its parameters
pub record Asked : Type 0 where
  pub query : Query
  pub names : List (List ℕ)
  pub parameters : ℕ

abbrev pub asked : Query → List (List ℕ) → ℕ → Asked
asked query names parameters = record { query = query; names = names; parameters = parameters }

-- the text asks it
abbrev pub IsAskedBy : Asked → List ℕ → Type 0
IsAskedBy what text = Reads bureau text what.query what.names what.parameters

-- Some text that asks it means something under these tables too: each table and column that it names is there.
abbrev pub CanAsk : Schema → Asked → Type 0
CanAsk schema what = (text : List ℕ) × IsAskedBy what text × IsUnderstood schema text

-- the text is one statement under these tables, which does not read the time
abbrev pub IsOneStatement : Schema → List ℕ → Type 0
IsOneStatement schema text =
    (compiled : Compiled) × (understood schema text ≡ Ok compiled) × (length text ≤ compiled.tail) × (compiled.formats ≡ [])

-- Some text that asks it isn't one under these tables.
abbrev pub CannotAsk : Schema → Asked → Type 0
CannotAsk schema what = (text : List ℕ) × IsAskedBy what text × (IsOneStatement schema text → ⊥)

-- the version
abbrev pub of_version : Asked
of_version = asked read.version (codes "version" ∷ []) 0

-- all columns of a table
abbrev pub of_table : Table → Asked
of_table table = asked (all_of table) (columns_of table) 0

-- all columns of each other table of version 1
abbrev pub of_tables : List Asked
of_tables = map of_table tables_of_version_1

-- and those of the table that only version 2 has, of requisites under a condition
abbrev pub of_conditions : Asked
of_conditions = of_table sysmod_cond

-- The tables of version 1 are there besides that of the version itself, each with all its columns.
abbrev pub HasTables : Schema → Type 0
HasTables schema = AllByRecursion (CanAsk schema) of_tables

-- One of them isn't there, or lacks a column.
abbrev pub LacksTable : Schema → Type 0
LacksTable schema = (what : Asked) × Contains of_tables what × CannotAsk schema what

-- And that of version 2 is there; or it isn't.
abbrev pub HasConditions : Schema → Type 0
HasConditions schema = CanAsk schema of_conditions

abbrev pub LacksConditions : Schema → Type 0
LacksConditions schema = CannotAsk schema of_conditions

-- The text that makes that table means something under these, so it can be made: no table of its name is there. Or it isn't
-- a statement.
abbrev pub CanMakeConditions : Schema → Type 0
CanMakeConditions schema = (text : List ℕ) × MakesTable bureau_1 text sysmod_cond bureau × IsUnderstood schema text

abbrev pub CannotMakeConditions : Schema → Type 0
CannotMakeConditions schema = (text : List ℕ) × MakesTable bureau_1 text sysmod_cond bureau × (IsOneStatement schema text → ⊥)

-- It has version 1 and the tables of it, and lacks the one that only version 2 has.
pub record IsTaken (database : Database) : Type 0 where
  pub version : HasVersion (Some 1) database
  pub tables : HasTables database.schema
  pub conditions : CanMakeConditions database.schema

-- ---- why it isn't taken

-- The version can't be asked. Or it is this one, and one of the tables that every version has isn't there, or one that only
-- this version has.
abbrev pub HasOtherShape : ℕ → (Schema → Type 0) → Database → Type 0
HasOtherShape wanted Lacks database =
    CannotAsk database.schema of_version
    ⊎ (HasVersion (Some wanted) database × (LacksTable database.schema ⊎ Lacks database.schema))

module _ (wanted : ℕ) (Lacks : Schema → Type 0) (IsIt IsOtherOurs : Database → Type 0) (IsChanged : State → State → Type 0) where
  -- Its tables are other ones than those of a version, and no database of ours of either version is refused so. Or they are
  -- of another version, which no database of ours of this one has. Or memory ran out. Or the device failed or was closed, or
  -- the tables of the version show nothing. Or a change was begun, for which there was no room, or which failed.
  abbrev pub IsNotOf : State → State → StoreFault → Type 0
  IsNotOf old new Shape = IsTrue old.is_open × HasOtherShape wanted Lacks old.committed × (IsIt old.committed → ⊥) × (IsOtherOurs old.committed → ⊥)
  IsNotOf old new Version = IsTrue old.is_open × (IsIt old.committed → ⊥)
      × (version : Option ℕ) × (version ≢ Some wanted) × HasVersion version old.committed
  IsNotOf old new Memory = Unit {0}
  IsNotOf old new Device = HasFailed old new ⊎ (WithholdsVersion old.step_limit old.committed ⊎ IsChanged old new)
  IsNotOf old new Size = IsChanged old new

-- it isn't of version 2, which is seen without a change
abbrev pub IsNoStore : State → State → StoreFault → Type 0
IsNoStore = IsNotOf 2 LacksConditions IsOurs IsOfVersion1 (λ old new. ⊥)

-- Why a database of the bureau's own is refused: memory ran out, or the device failed, or the connection was closed.
abbrev pub IsOutOfReach : State → State → StoreFault → Type 0
IsOutOfReach old new fault = (fault ≡ Memory) ⊎ ((fault ≡ Device) × HasFailed old new)

-- A change was begun of a database that was taken for one of version 1, and was refused. If the database is ours, the device
-- failed.
abbrev pub IsNotMigrated : State → State → Type 0
IsNotMigrated old new = IsTaken old.committed × (IsOfVersion1 old.committed → CannotWrite old new)

-- it isn't of version 1, or it wasn't made one of version 2
abbrev pub IsNotEarlier : State → State → StoreFault → Type 0
IsNotEarlier = IsNotOf 1 CannotMakeConditions IsOfVersion1 IsOurs IsNotMigrated

-- ---- No part of what is promised: private contracts cite it.

-- What a look saw of the committed tables, if it is refused for their shape or for their version; or memory ran out; or the
-- device failed, or the tables of the version show nothing.
abbrev pub IsSeen : (Database → Type 0) → (Database → Type 0) → State → State → StoreFault → Type 0
IsSeen Shaped Versioned old new Shape = IsTrue old.is_open × Shaped old.committed
IsSeen Shaped Versioned old new Version = IsTrue old.is_open × Versioned old.committed
IsSeen Shaped Versioned old new Memory = Unit {0}
IsSeen Shaped Versioned old new Device = HasFailed old new ⊎ WithholdsVersion old.step_limit old.committed
IsSeen Shaped Versioned old new Size = ⊥

-- The fault for an error of the database: for a failure of the store below it is that failure, and for all else the shape of
-- the tables.
abbrev pub IsToldOf : Error → StoreFault → Type 0
IsToldOf error Memory = error ≡ store_error OutOfMemory
IsToldOf error Device =
    (error ≡ store_error Io) ⊎ (error ≡ store_error Corrupt) ⊎ (error ≡ store_error Full) ⊎ (error ≡ store_error Broken)
IsToldOf error Shape = (cause : StoreError) → error ≡ store_error cause → cause ≡ Unstorable
IsToldOf error Version = ⊥
IsToldOf error Size = ⊥

-- the schema of version 2, or that of version 1
abbrev pub IsOfBureau : Schema → Type 0
IsOfBureau schema = (schema ≡ bureau) ⊎ (schema ≡ bureau_1)

-- databases of ours have the version that is told
pub record TellsVersion (version : Option ℕ) (database : Database) : Type 0 where
  pub has : HasVersion version database
  pub ours : IsOurs database → version ≡ Some 2
  pub earlier : IsOfVersion1 database → version ≡ Some 1

-- it is of another version than this
abbrev pub IsOther : ℕ → Database → Type 0
IsOther wanted database = (version : Option ℕ) × (version ≢ Some wanted) × TellsVersion version database

-- one of these texts isn't a statement here
abbrev pub LacksText : List (Bor (List ℕ)) → Database → Type 0
LacksText texts database = (text : Bor (List ℕ)) × Contains texts text × (IsOneStatement database.schema text.now → ⊥)

-- the tables are the bureau's of no version, and can't be asked for their version
abbrev pub LacksVersion : Database → Type 0
LacksVersion database = (IsOfBureau database.schema → ⊥) × CannotAsk database.schema of_version

-- or one of the other tables isn't there
abbrev pub LacksTables : Database → Type 0
LacksTables database = (IsOfBureau database.schema → ⊥) × LacksTable database.schema

-- or the version is the wanted one, and another text isn't a statement here
abbrev pub LacksMore : ℕ → List ℕ → Database → Type 0
LacksMore wanted text database =
    LacksVersion database
    ⊎ (TellsVersion (Some wanted) database × (LacksTables database ⊎ (IsOneStatement database.schema text → ⊥)))
