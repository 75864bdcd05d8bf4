-- The databases that are the bureau's own.
use Rattle.std.specs.Prelude.{◌≡◌, ℕ, List, [], ◌∷◌, pos}
use Rattle.sqlite.specs.Effect.{Database}
use Rattle.sqlite.specs.Order.{Row}
use Rattle.sqlite.specs.Tree.{Trees}
use Rattle.sqlite.specs.declared.types.Value.TheVariants.{Int, Null}
use Rattle.sqlite_catalog.specs.Listing.{IsSound}
use Rattle.sql_texts.specs.Schema.{bureau}
use Rattle.sql_tables.specs.InTrees.{stored_in}
use Rattle.sql_tables.specs.Stored.{Stored}
use Rattle.sql_tables.specs.Whole.{IsWhole}
use Rattle.sql_tables.specs.Numbered.{AreNumbered}

-- the rows of a database
abbrev pub held_by : Database → Stored
held_by database = stored_in database.trees

-- the row of a version, after its rowid, which is the same number as its first column
abbrev pub version_rows : ℕ → List Row
version_rows version = (Int (pos 1) ∷ Null ∷ Int (pos version) ∷ []) ∷ []

-- The trees list the tables of version 2 and obey them. They have rows that the bureau wrote, under numbers that rise, and
-- the row of version 2.
pub record AreOurs (trees : Trees) : Type 0 where
  pub sound : IsSound bureau trees
  pub numbered : AreNumbered trees
  pub version : trees 0 ≡ version_rows 2
  pub whole : IsWhole (stored_in trees)

-- It has the tables of version 2, with rows that the bureau wrote.
pub record IsOurs (database : Database) : Type 0 where
  pub schema : database.schema ≡ bureau
  pub rows : AreOurs database.trees
