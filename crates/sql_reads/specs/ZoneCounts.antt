-- The zone of a row, and the number of its rows.
use Rattle.std.specs.Prelude.{ℕ, nat_lt, List, Option, Some, None, option_and_then, if◌then◌else◌}
use Rattle.sqlite_value.specs.Order.{Row, column}
use Rattle.sql_tables.specs.Values.{id_in, number_in}
use Rattle.sql_texts.specs.Reads.{most_rows}

-- the greatest number that the database can count means nothing, since there may be more
abbrev pub with_count : List ℕ → ℕ → Option (List ℕ × ℕ)
with_count name count = if nat_lt count most_rows then Some (name, count) else None

-- the name in the first column, with the count in the second
abbrev pub zone_counted : Row → Option (List ℕ × ℕ)
zone_counted row =
    option_and_then (λ name. option_and_then (with_count name) (number_in (column row 1))) (id_in (column row 0))
