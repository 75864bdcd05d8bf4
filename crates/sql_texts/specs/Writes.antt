-- The commands that write, on the tables by their indices in the schema.
use Rattle.std.specs.Prelude.{ℕ, ◌+◌, List, [], ◌∷◌, map, pos}
use Rattle.std.specs.List.{range_with_len}
use Rattle.sqlite.specs.Command.{Command}
use Rattle.sqlite.specs.Command.TheVariants.{Delete, Insert}
use Rattle.sqlite.specs.Source.TheVariants.{Values}
use Rattle.sqlite.specs.Term.{Term, lit, col}
use Rattle.sqlite.specs.declared.types.Value.TheVariants.{Int, Null}
use Rattle.sql_texts.specs.Reads.{from_table}

-- version 2 goes into the one row of its table, whose first column is the rowid
abbrev pub this_version : Command
this_version = Insert 0 (Values (lit (Int (pos 1)) ∷ lit Null ∷ lit (Int (pos 2)) ∷ []) 3)

-- one row of all parameters, which are so many, goes into the table at an index; its rowid is chosen
abbrev pub insert_given : ℕ → ℕ → Command
insert_given table_index columns =
    Insert table_index (Values (lit Null ∷ map (col 0) (range_with_len 0 columns)) (1 + columns))

-- the rows of a tree that a filter keeps leave the table at an index
abbrev pub delete_of : ℕ → ℕ → List Term → Command
delete_of table_index tree filter = Delete table_index (record { lets = []; body = from_table tree filter (0 ∷ []) [] })
