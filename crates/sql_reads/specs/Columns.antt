-- The texts that show whether the tables are there.
use Rattle.std.specs.Prelude.{ℕ, suc, List, [], ◌∷◌, drop, length, map}
use Rattle.std.specs.Borrow.{Bor}
use Rattle.std.specs.List.{range_with_len}
use Rattle.sqlite.specs.Query.{Query}
use Rattle.sqlite.specs.Schema.{Schema}
use Rattle.sqlite.specs.Table.{Table}
use Rattle.sql_texts.specs.Meaning.{Reads}
use Rattle.sql_texts.specs.Reads.{from_table}
use Rattle.sql_texts.specs.Schema.{bureau_1, columns_of}

-- the tables of version 1, apart from that of the version itself
abbrev pub tables_of_version_1 : List Table
tables_of_version_1 = drop 1 bureau_1.tables

-- the columns of a table, from 0 on
abbrev pub indices_of : Table → List ℕ
indices_of table = range_with_len 0 (length table.columns)

-- the query of all rows of a table, with all its columns
abbrev pub all_of : Table → Query
all_of table = from_table table.tree [] (map suc (indices_of table)) []

-- under this schema the text shows all columns of a table
abbrev pub ShowsAll : Schema → Table → List ℕ → Type 0
ShowsAll schema table text = Reads schema text (all_of table) (columns_of table) 0

-- each of these texts shows all columns of one of these tables, in the same order
abbrev pub ShowEach : Schema → List Table → List (Bor (List ℕ)) → Type 0
ShowEach schema [] [] = Unit {0}
ShowEach schema [] (text ∷ texts) = ⊥
ShowEach schema (table ∷ tables) [] = ⊥
ShowEach schema (table ∷ tables) (text ∷ texts) = ShowsAll schema table text.now × ShowEach schema tables texts
