-- Queries over the trees of the tables: their forms, and those that join, that count or that several crates ask. Slot 0 has the
-- parameters, and slot 1 a row.
use Rattle.std.specs.Prelude.{ℕ, List, [], ◌∷◌, length, map, None, Some, false, pos, negsuc}
use Rattle.std.specs.List.{range_with_len}
use Rattle.sqlite.specs.Collation.TheVariants.{Binary}
use Rattle.sqlite.specs.Query.{Join, Query, counted, end, inner}
use Rattle.sqlite.specs.Table.{Table}
use Rattle.sqlite.specs.Term.{Term, lit, col, op2}
use Rattle.sqlite.specs.declared.types.Value.TheVariants.{Int, Null}
use Rattle.sqlite_sql.specs.Group.{Aggregate}
use Rattle.sqlite_sql.specs.declared.aggregate.AggregateOp.TheVariants.{CountRows}
use Rattle.sqlite_sql.specs.declared.ops.BinaryOp.TheVariants.{Compare}
use Rattle.sqlite_sql.specs.declared.ops.CompareOp.TheVariants.{Eq, Lt}
use Rattle.sqlite_value.specs.Keys.{ascending}
use Rattle.sql_texts.specs.Schema.{hold_row}

-- two values are equal
abbrev pub same : Term → Term → Term
same = op2 (Compare Eq Binary)

-- the column at an index is the parameter of a number from 0 on
abbrev pub is_given : ℕ → ℕ → Term
is_given index parameter = same (col 1 index) (col 0 parameter)

-- the terms of the rows that a filter keeps, all of them, ordered by other terms
abbrev pub query_of : Join → List Term → List Term → List Term → Query
query_of from filter project order = record {
  from = from;
  filter = filter;
  group = None;
  project = project;
  distinct = false;
  collations = [];
  order = map (λ term. (term, ascending Binary)) order;
  limit = lit (Int (negsuc 0));
  offset = lit (Int (pos 0));
}

-- from one table's rows the columns at these indices, ordered by the columns at the others
abbrev pub from_table : ℕ → List Term → List ℕ → List ℕ → Query
from_table tree filter project order =
    query_of (inner tree end) filter (map (col 1) project) (map (col 1) order)

-- all columns of a table, whose row is in this slot
abbrev pub all_columns : ℕ → Table → List Term
all_columns slot table = map (col slot) (range_with_len 1 (length table.columns))

-- the number of rows
abbrev pub how_many : Aggregate
how_many = record { op = CountRows; distinct = false; collation = Binary; argument = lit Null }

-- the number of rows of a table that a filter keeps
abbrev pub count_of : ℕ → List Term → Query
count_of tree filter = record (query_of (inner tree end) filter (col 1 0 ∷ []) [])
    { group = Some (record { keys = []; collations = []; aggregates = how_many ∷ []; having = [] }) }

abbrev pub version : Query
version = from_table 0 [] (2 ∷ []) (0 ∷ [])

-- all callers, each with its token
abbrev pub callers : Query
callers = from_table 1 [] (1 ∷ 2 ∷ []) (1 ∷ [])

-- the number and the reply of a caller's last change
abbrev pub last_change : Query
last_change = from_table 4 (is_given 1 0 ∷ []) (2 ∷ 3 ∷ []) (1 ∷ [])

-- the catalogued ids that supersede an id: slot 2 is their record
abbrev pub superseders : Query
superseders = query_of (inner 8 (inner 6 end))
    (same (col 2 1) (col 1 1) ∷ is_given 2 0 ∷ []) (col 1 1 ∷ []) (col 1 1 ∷ [])

abbrev pub sysmod_count : Query
sysmod_count = count_of 6 []

abbrev pub hold_count : Query
hold_count = count_of 11 []

-- a count is an integer of SQL, so it reaches no further than this
abbrev pub most_rows : ℕ
most_rows = 9223372036854775807

-- a row in slot 2 is of the zone in slot 1
abbrev pub in_the_zone : List Term
in_the_zone = same (col 2 1) (col 1 1) ∷ same (col 2 2) (col 1 2) ∷ []

-- the names of a client's zones, each with the number of its rows: slot 2 has that count
abbrev pub zones : Query
zones = query_of (inner 13 (counted most_rows (inner 15 end) in_the_zone end)) (is_given 1 0 ∷ [])
    (col 1 2 ∷ col 2 0 ∷ []) (col 1 2 ∷ [])

-- the number of zones that a client has
abbrev pub zone_count : Query
zone_count = count_of 13 (is_given 1 0 ∷ [])

-- the holds of a kind on the SYSMODs installed in a client's zone: slot 2 is the hold on the SYSMOD of slot 1
abbrev pub held_in : Query
held_in = query_of (inner 15 (inner 11 end))
    (same (col 2 1) (col 1 3) ∷ is_given 1 0 ∷ is_given 2 1
    ∷ op2 (Compare Lt Binary) (col 1 4) (lit (Int (pos 2))) ∷ same (col 2 2) (col 0 2) ∷ [])
    (all_columns 2 hold_row) (map (col 2) (1 ∷ 2 ∷ 3 ∷ []))
