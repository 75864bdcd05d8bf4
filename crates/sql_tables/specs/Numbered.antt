-- The rows of each table have rowids that are whole numbers and rise.
use Rattle.std.specs.Prelude.{IsTrue, List}
use Rattle.std.specs.List.{AllByRecursion}
use Rattle.sqlite.specs.Order.{Row}
use Rattle.sqlite.specs.Tree.{IsTable, Trees, rowid}
use Rattle.sqlite.specs.View.{is_int}
use Rattle.sql_texts.specs.Schema.{tables}

-- the rows of one table
abbrev pub IsNumbered : List Row → Type 0
IsNumbered rows = IsTable rows × AllByRecursion (λ row. IsTrue (is_int (rowid row))) rows

abbrev pub AreNumbered : Trees → Type 0
AreNumbered trees = AllByRecursion (λ table. IsNumbered (trees table.tree)) tables
