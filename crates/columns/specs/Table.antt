-- A text in columns so far.
use Rattle.std.specs.Prelude.{ℕ, List, ◌+◌, ◌++◌, length, Option}
use Rattle.std.specs.List.{flat_map}
use Rattle.columns.specs.Columns.{title_line, heading_of, row_of, count_line}

-- its columns, its lines, and the number of its rows
pub record TableText : Type 0 where
  pub columns : List (ℕ × List ℕ)
  pub text : List ℕ
  pub rows : ℕ

-- a table with these rows
abbrev pub table_with : List (ℕ × List ℕ) → Option (List ℕ) → List (List (List ℕ)) → TableText
table_with columns title rows =
    record { columns = columns; text = title_line title ++ heading_of columns ++ flat_map (row_of columns) rows; rows = length rows }

-- the table with one more row
abbrev pub add_row : TableText → List (List ℕ) → TableText
add_row table fields = record table { text = table.text ++ row_of table.columns fields; rows = table.rows + 1 }

-- its whole text: its lines and the count of its rows
abbrev pub finished : TableText → List ℕ
finished table = table.text ++ count_line table.rows
