-- No part of what is promised: private contracts cite it. Rows that are put into a table.
use Rattle.std.specs.Prelude.{◌≡◌, ◌++◌, ℕ, List, Option}
use Rattle.columns.specs.Table.{TableText, table_with}

-- the new table has the rows of the old one, whatever they are, and these after them
abbrev pub AddsRows : List (List (List ℕ)) → TableText → TableText → Type 0
AddsRows more old new =
    (columns : List (ℕ × List ℕ)) (title : Option (List ℕ)) (rows : List (List (List ℕ)))
    → old ≡ table_with columns title rows → new ≡ table_with columns title (rows ++ more)
