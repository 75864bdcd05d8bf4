-- The contents of a store's two files between two runs: the file of the database and its log.
use Rattle.std.specs.Prelude.{◌≡◌, []}
use Rattle.bureau_store.specs.Tables.{Tables}
use Rattle.sqlite.specs.Files.{HoldsDatabase}
use Rattle.sqlite_trees.specs.Tree.{Trees}
use Rattle.sqlite_wal.specs.Recovery.{Image}
use Rattle.sql_tables.specs.Earlier.{AreOfVersion1}
use Rattle.sql_tables.specs.Ours.{AreOurs}
use Rattle.sql_tables.specs.InTrees.{stored_in}
use Rattle.sql_tables.specs.Stored.{tables_of}

-- the files hold a database, and its trees are such
abbrev pub HoldTrees : (Trees → Type 0) → Image → Type 0
HoldTrees Are image = ∥ ((trees : Trees) × HoldsDatabase image trees × Are trees) ∥₁

-- they hold the bureau's own database, with these tables
pub record HoldsStore (image : Image) (this : Tables) : Type 0 where
  pub trees : Trees
  pub held : HoldsDatabase image trees
  pub ours : AreOurs trees
  pub tables : tables_of (stored_in trees) ≡ this

-- they hold the bureau's own database of version 1, with these tables
pub record HoldsEarlier (image : Image) (this : Tables) : Type 0 where
  pub trees : Trees
  pub held : HoldsDatabase image trees
  pub ours : AreOfVersion1 trees
  pub tables : tables_of (record (stored_in trees) { conds = [] }) ≡ this

-- they hold the bureau's own database, and its tables are such
abbrev pub HoldTables : Image → (Tables → Type 0) → Type 0
HoldTables image Are = ∥ ((this : Tables) × HoldsStore image this × Are this) ∥₁
