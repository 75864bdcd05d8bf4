-- No part of what is promised: private contracts cite it. The counts of queries.
use Rattle.std.specs.Prelude.{◌≡◌, ◌<◌, ℕ, List, Some}
use Rattle.sqlite.specs.Query.{IsAnswer, Query}
use Rattle.sqlite.specs.Tree.{Trees}
use Rattle.sqlite_value.specs.Order.{Row, column}
use Rattle.sql_tables.specs.InTrees.{stored_in}
use Rattle.sql_tables.specs.Stored.{Stored}
use Rattle.sql_tables.specs.Values.{number_in}
use Rattle.sql_tables.specs.Whole.{IsWhole}
use Rattle.sql_reads.specs.Answering.{one_of}

-- the number in the one row of the query's answer, unless it is the greatest, is the right number for
-- whole tables
abbrev pub Counts : Query → Row → (Stored → ℕ) → Type 0
Counts query params many =
    (trees : Trees) (rows : List Row) (found : ℕ) → IsWhole (stored_in trees)
    → one_of (λ row. number_in (column row 0)) rows ≡ Some (Some found) → found < 9223372036854775807
    → IsAnswer query trees params rows → found ≡ many (stored_in trees)
