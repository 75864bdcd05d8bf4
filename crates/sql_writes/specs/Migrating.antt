-- Making a database of version 1 one of version 2, with the rows that it holds.
use Rattle.std.specs.Prelude.{◌≡◌, ℕ, List, [], Ok, Option, false}
use Rattle.sqlite.specs.Calls.{IsWrite}
use Rattle.sqlite.specs.Clock.{timed}
use Rattle.sqlite.specs.Does.{Does, Tally}
use Rattle.sqlite.specs.Listing.{understood}
use Rattle.sqlite.specs.State.{text_of}
use Rattle.sqlite_resolve.specs.declared.compiled.Compiled.{Compiled}
use Rattle.sqlite_schema.specs.declared.schema.Keys.TheVariants.{Enforced}
use Rattle.sql_texts.specs.Meaning.{MakesTable, Means}
use Rattle.sql_texts.specs.Schema.{bureau, bureau_1, sysmod_cond}
use Rattle.sql_texts.specs.Writes.{delete_of, this_version}
use Rattle.sqlite.specs.Effect.{Database}
use Rattle.sqlite.specs.Order.{Row}
use Rattle.sql_tables.specs.Stored.{Stored}
use Rattle.sql_tables.specs.Earlier.{IsOfVersion1, held_by_version_1}
use Rattle.sql_tables.specs.Ours.{held_by}
use Rattle.sql_tables.specs.Writing.{IsKnown}

-- a database of version 1 that is ours, with these rows
pub record HeldEarlier (stored : Stored) (database : Database) : Type 0 where
  pub ours : IsOfVersion1 database
  pub held : held_by_version_1 database ≡ stored

-- the tables of version 2, with these rows of the version and these of all else
pub record HoldsAll (of_version : List Row) (stored : Stored) (database : Database) : Type 0 where
  pub known : IsKnown database
  pub version : database.trees 0 ≡ of_version
  pub held : held_by database ≡ stored

-- ---- whatever tables the database has

-- The database after a text ran without parameters in a transaction: what its command does, if that writes.
abbrev pub IsRunOf : List ℕ → Database → Database → Type 0
IsRunOf text before after =
    (compiled : Compiled) × (understood before.schema text ≡ Ok compiled)
    × (IsWrite compiled.command → (limit : Option ℕ) × (now : ℕ) × (tally : Tally)
    × Does limit (record { keys = Enforced; in_doubt = false; may_wait = false }) (timed [] compiled.formats now) before (text_of text compiled)
    compiled.returning compiled.command (Ok (tally, after)))

-- the database after a text that makes the table of requisites under a condition
abbrev pub IsWithConditions : Database → Database → Type 0
IsWithConditions before after = (text : List ℕ) × MakesTable bureau_1 text sysmod_cond bureau × IsRunOf text before after

-- and then after one that deletes the rows of the version
abbrev pub IsWithoutVersion : Database → Database → Type 0
IsWithoutVersion before after =
    (between : Database) × IsWithConditions before between × (text : List ℕ) × Means bureau text (delete_of 0 0 []) 0 × IsRunOf text between after

-- and then after one that inserts that of version 2: exactly these three statements make one database of another
abbrev pub IsMigration : Database → Database → Type 0
IsMigration before after =
    (between : Database) × IsWithoutVersion before between × (text : List ℕ) × Means bureau text this_version 0 × IsRunOf text between after
