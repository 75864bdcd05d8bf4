-- Text in columns, as reports print it. A column is a pair: its start, counted from 1, and
-- its name. The first column begins at 1, so no blank stands before it.
use Rattle.std.specs.Prelude.{ℕ, ◌-◌, List, [], ◌∷◌, ◌++◌, length, drop, replicate, map, codes, decimal, Option, Some, None}
use Rattle.std.specs.Borrow.{Bor}
use Rattle.std.specs.List.{flat_map}
use Rattle.columns.specs.declared.column.Column.{Column}

-- the columns that the code's list names
abbrev pub columns_of : List Column → List (ℕ × List ℕ)
columns_of columns = map (λ column. (column.start, column.name.now)) columns

-- the bytes of each field
abbrev pub texts_of : List (Bor (List ℕ)) → List (List ℕ)
texts_of fields = map (λ field. field.now) fields

-- a field with blanks after it up to a width; a longer one stands as it is
abbrev pub in_width : ℕ → List ℕ → List ℕ
in_width width field = field ++ replicate (width - length field) 32

-- the width of the first of the columns, up to the beginning of the next; the last has no width
abbrev pub width_of : List (ℕ × List ℕ) → ℕ
width_of [] = 0
width_of (column ∷ []) = 0
width_of (column ∷ next ∷ columns) = next.0 - column.0

-- the fields of a row, each in its column
abbrev pub fields_in : List (ℕ × List ℕ) → List (List ℕ) → List ℕ
fields_in columns [] = []
fields_in columns (field ∷ fields) = in_width (width_of columns) field ++ fields_in (drop 1 columns) fields

-- a line with a field in each column, and its line end
abbrev pub row_of : List (ℕ × List ℕ) → List (List ℕ) → List ℕ
row_of columns fields = fields_in columns fields ++ 10 ∷ []

-- the line with the columns' names
abbrev pub heading_of : List (ℕ × List ℕ) → List ℕ
heading_of columns = row_of columns (map (λ column. column.1) columns)

-- the line above the heading, if there is one
abbrev pub title_line : Option (List ℕ) → List ℕ
title_line None = []
title_line (Some title) = title ++ 10 ∷ []

-- the line that counts the rows
abbrev pub count_line : ℕ → List ℕ
count_line rows = codes "ROWS " ++ decimal rows ++ 10 ∷ []

-- the whole text: a title if there is one, the heading, the rows and their count
abbrev pub text_of : List (ℕ × List ℕ) → Option (List ℕ) → List (List (List ℕ)) → List ℕ
text_of columns title rows =
    title_line title ++ heading_of columns ++ flat_map (row_of columns) rows ++ count_line (length rows)
