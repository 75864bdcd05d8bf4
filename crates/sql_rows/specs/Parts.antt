-- Whether a row has a key of three columns.
use Rattle.std.specs.Prelude.{◌&&◌, ℕ, Bool, List}
use Rattle.sqlite_value.specs.Order.{Row, column}
use Rattle.sql_tables.specs.Stored.{is_named, is_of}

-- whether the first three columns are these names
abbrev pub is_of_three : List ℕ → List ℕ → List ℕ → Row → Bool
is_of_three first second third row = is_of first row && (is_named second (column row 1) && is_named third (column row 2))
