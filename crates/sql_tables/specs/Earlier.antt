-- The databases of version 1 that are the bureau's own. They have all tables but that of requisites under a condition.
use Rattle.std.specs.Prelude.{◌≡◌, [], take}
use Rattle.std.specs.List.{AllByRecursion}
use Rattle.sqlite.specs.Effect.{Database}
use Rattle.sqlite.specs.Tree.{Trees}
use Rattle.sqlite_catalog.specs.Listing.{IsSound}
use Rattle.sql_texts.specs.Schema.{bureau_1, tables}
use Rattle.sql_tables.specs.InTrees.{stored_in}
use Rattle.sql_tables.specs.Stored.{Stored}
use Rattle.sql_tables.specs.Whole.{IsWhole}
use Rattle.sql_tables.specs.Numbered.{IsNumbered}
use Rattle.sql_tables.specs.Ours.{version_rows}

-- the rows of such a database: no record has requisites under a condition
abbrev pub held_by_version_1 : Database → Stored
held_by_version_1 database = record (stored_in database.trees) { conds = [] }

-- The trees list the tables of version 1 and obey them. They have rows that the bureau wrote, under numbers that rise, and
-- the row of version 1.
pub record AreOfVersion1 (trees : Trees) : Type 0 where
  pub sound : IsSound bureau_1 trees
  pub numbered : AllByRecursion (λ table. IsNumbered (trees table.tree)) (take 9 tables)
  pub version : trees 0 ≡ version_rows 1
  pub whole : IsWhole (record (stored_in trees) { conds = [] })

-- It has the tables of version 1, with rows that the bureau wrote.
pub record IsOfVersion1 (database : Database) : Type 0 where
  pub schema : database.schema ≡ bureau_1
  pub rows : AreOfVersion1 database.trees
