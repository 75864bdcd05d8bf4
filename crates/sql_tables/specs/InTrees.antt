-- The rows of the tables where the database keeps them: each table in its tree, each row after its rowid.
use Rattle.std.specs.Prelude.{List, drop, map}
use Rattle.sqlite.specs.Tree.{Trees}
use Rattle.sqlite_value.specs.Order.{Row}
use Rattle.sql_tables.specs.Stored.{Stored}

-- rows without their rowids
abbrev pub columns_of : List Row → List Row
columns_of rows = map (drop 1) rows

-- the rows of the trees, by the trees' numbers
abbrev pub stored_in : Trees → Stored
stored_in trees = record {
  callers = columns_of (trees 1);
  changes = columns_of (trees 4);
  sysmods = columns_of (trees 6);
  sups = columns_of (trees 8);
  conds = columns_of (trees 19);
  holds = columns_of (trees 11);
  heads = columns_of (trees 13);
  rows = columns_of (trees 15);
  received = columns_of (trees 17);
}
