-- The version of the tables in a database.
use Rattle.std.specs.Prelude.{◌≡◌, ◌≤◌, ◌⊎◌, ℕ, List, [], ◌∷◌, None, Ok, Option, codes, length}
use Rattle.sqlite.specs.Clock.{timed}
use Rattle.sqlite.specs.Effect as effect
use Rattle.sqlite.specs.Effect.{Database, RefusesToRead}
use Rattle.sqlite.specs.Listing.{IsSourceOf, reads_listing, understood}
use Rattle.sqlite.specs.declared.error.Error.{Error}
use Rattle.sqlite_resolve.specs.declared.compiled.Compiled.{Compiled}
use Rattle.sqlite_value.specs.Order.{Row, column}
use Rattle.sql_tables.specs.Values.{number_in}
use Rattle.sql_texts.specs.Meaning.{Reads}
use Rattle.sql_texts.specs.Reads as read
use Rattle.sql_texts.specs.Schema.{bureau}

-- the number of the one row, if there is just one
abbrev pub version_in : List Row → Option ℕ
version_in [] = None
version_in (row ∷ []) = number_in (column row 0)
version_in (row ∷ other ∷ rows) = None

-- Whatever tables a database has: the text means something under them, and with these parameters its query answers these
-- rows. A text that reads the time is given it too.
pub record Shows (text : List ℕ) (params : Row) (database : Database) (rows : List Row) : Type 0 where
  pub compiled : Compiled
  pub means : understood database.schema text ≡ Ok compiled
  pub source : Database
  pub from : IsSourceOf (reads_listing database.schema text) database source
  pub now : ℕ
  pub answer : effect.Reads compiled.command source (timed params compiled.formats now) rows

-- Or it means nothing under them.
abbrev pub MeansNothing : List ℕ → Database → Type 0
MeansNothing text database = (compiled : Compiled) → understood database.schema text ≡ Ok compiled → ⊥

-- Or it means something, and still shows nothing: it is more than one statement, takes other parameters, or reads the time;
-- or its query is refused over these rows.
abbrev pub Withholds : Option ℕ → List ℕ → Row → Database → Type 0
Withholds limit text params database = (compiled : Compiled) × (understood database.schema text ≡ Ok compiled)
    × ((length text ≤ compiled.tail → length params ≡ length compiled.names → compiled.formats ≡ [] → ⊥)
    ⊎ ((source : Database) × IsSourceOf (reads_listing database.schema text) database source
    × (now : ℕ) × (error : Error) × RefusesToRead limit compiled.command source (timed params compiled.formats now) error))

-- A text that asks the bureau's tables for their version shows rows here that have this version, or none.
pub record HasVersion (version : Option ℕ) (database : Database) : Type 0 where
  pub text : List ℕ
  pub asks : Reads bureau text read.version (codes "version" ∷ []) 0
  pub rows : List Row
  pub shown : Shows text [] database rows
  pub told : version ≡ version_in rows

-- Such a text means something here, and still shows nothing.
abbrev pub WithholdsVersion : Option ℕ → Database → Type 0
WithholdsVersion limit database =
    (text : List ℕ) × Reads bureau text read.version (codes "version" ∷ []) 0 × Withholds limit text [] database
