-- The rows that a database holds in its tables, and the bureau's tables that they stand for. Every list of rows stands for
-- some. Of two rows with one key, which no table allows, one counts. A row that stands for nothing counts for nothing.
use Rattle.std.specs.Prelude.{ℕ, ◌&&◌, Bool, false, List, [], ◌∷◌, map, filter, find, Option, Some, None, unwrap_or, option_map, option_and_then, if◌then◌else◌}
use Rattle.std.specs.List.{filter_map}
use Rattle.std.specs.Str.{bytes_eq}
use Rattle.holddata.specs.HoldBook.{book_of}
use Rattle.holddata.specs.declared.hold.HoldChange.TheVariants.{Put}
use Rattle.zone_lists.specs.declared.zones.ZoneRow.{ZoneRow}
use Rattle.catalogue.specs.Conditional.{put_conds}
use Rattle.catalogue.specs.Content.{Content}
use Rattle.catalogue.specs.Ids.{in_order}
use Rattle.catalogue.specs.Publication.{catalogue_of}
use Rattle.catalogue.specs.declared.conditional.CondNeed.{CondNeed}
use Rattle.catalogue.specs.declared.sysmod.Sysmod.{Sysmod}
use Rattle.bureau_store.specs.Caller.{is_publisher, publisher_name}
use Rattle.bureau_store.specs.Tables.{LastChange, Tables, ZoneTable, Zones, no_change}
use Rattle.bureau_store.specs.declared.caller.Caller.{Caller}
use Rattle.bureau_store.specs.declared.caller.Caller.TheVariants.{Publisher, Client}
use Rattle.sqlite_value.specs.Order.{Row, column}
use Rattle.sqlite_value.specs.declared.value.Value.{Value}
use Rattle.sql_tables.specs.Rows.{Beside, caller_found, change_found, cond_found, hold_found, sysmod_found, zone_row_found}
use Rattle.sql_tables.specs.Values.{id_in, ids_in, patterns_in, text_in}

-- the rows of each table but that of the version
pub record Stored : Type 0 where
  pub callers : List Row
  pub changes : List Row
  pub sysmods : List Row
  pub sups : List Row
  pub conds : List Row
  pub holds : List Row
  pub heads : List Row
  pub rows : List Row
  pub received : List Row

-- one of the tables: its rows among all, and the rows of all with others in their place
pub record OneTable : Type 0 where
  pub rows : Stored → List Row
  pub with_rows : List Row → Stored → Stored

abbrev pub of_table : (Stored → List Row) → (List Row → Stored → Stored) → OneTable
of_table rows with_rows = record { rows = rows; with_rows = with_rows }

abbrev pub caller_table : OneTable
caller_table = of_table (λ stored. stored.callers) (λ rows stored. record stored { callers = rows })

abbrev pub change_table : OneTable
change_table = of_table (λ stored. stored.changes) (λ rows stored. record stored { changes = rows })

abbrev pub sysmod_table : OneTable
sysmod_table = of_table (λ stored. stored.sysmods) (λ rows stored. record stored { sysmods = rows })

abbrev pub sup_table : OneTable
sup_table = of_table (λ stored. stored.sups) (λ rows stored. record stored { sups = rows })

abbrev pub cond_table : OneTable
cond_table = of_table (λ stored. stored.conds) (λ rows stored. record stored { conds = rows })

abbrev pub hold_table : OneTable
hold_table = of_table (λ stored. stored.holds) (λ rows stored. record stored { holds = rows })

abbrev pub head_table : OneTable
head_table = of_table (λ stored. stored.heads) (λ rows stored. record stored { heads = rows })

abbrev pub row_table : OneTable
row_table = of_table (λ stored. stored.rows) (λ rows stored. record stored { rows = rows })

abbrev pub received_table : OneTable
received_table = of_table (λ stored. stored.received) (λ rows stored. record stored { received = rows })

-- no rows but those of the callers
abbrev pub opened : List Row → Stored
opened callers = record {
  callers = callers;
  changes = [];
  sysmods = [];
  sups = [];
  conds = [];
  holds = [];
  heads = [];
  rows = [];
  received = [];
}

-- the columns at these indices, as a read shows them
abbrev pub shown : List ℕ → Row → Row
shown indices row = map (column row) indices

-- whether a value is the text of an id
abbrev pub is_named : List ℕ → Value → Bool
is_named id value = unwrap_or (option_map (λ found. bytes_eq found id) (id_in value)) false

-- whether the first column is this id, and the second that
abbrev pub is_of : List ℕ → Row → Bool
is_of id row = is_named id (column row 0)

abbrev pub is_of_both : List ℕ → List ℕ → Row → Bool
is_of_both first second row = is_of first row && is_named second (column row 1)

-- whether the second column is the text of a token
abbrev pub has_token : List ℕ → Row → Bool
has_token token row = bytes_eq (text_in (column row 1)) token

-- the first of some rows
abbrev pub first : List Row → Option Row
first [] = None
first (row ∷ rows) = Some row

-- ---- changes

-- the name under which a caller's last change is kept; no client has the publisher's
abbrev pub name_of : Caller → Option (List ℕ)
name_of Publisher = Some publisher_name
name_of (Client name) = if is_publisher name then None else Some name

-- the last change, as the rows of a name say it
abbrev pub change_said : List Row → Option LastChange
change_said rows = option_and_then (λ row. change_found (shown (1 ∷ 2 ∷ []) row)) (first rows)

abbrev pub change_of : List Row → List ℕ → Option LastChange
change_of rows name = change_said (filter (is_of name) rows)

abbrev pub last_of : List Row → Caller → LastChange
last_of rows caller = unwrap_or (option_and_then (change_of rows) (name_of caller)) no_change

-- ---- what is published

-- the ids that an id supersedes, in order
abbrev pub sup_of : List Row → List ℕ → List (List ℕ)
sup_of sups id = in_order (filter_map (λ row. id_in (column row 1)) (filter (is_of id) sups))

-- the requisites of an id under a condition, in order
abbrev pub conds_of : List Row → List ℕ → List CondNeed
conds_of conds id = put_conds [] (filter_map (λ row. cond_found (shown (1 ∷ 2 ∷ []) row)) (filter (is_of id) conds))

-- the parts of an id's record that rows of other tables have
abbrev pub beside_of : Stored → List ℕ → Beside
beside_of stored id = record { conds = conds_of stored.conds id; sup = sup_of stored.sups id }

-- the record of a row, given those parts for each id
abbrev pub sysmod_with : (List ℕ → Beside) → Row → Option Sysmod
sysmod_with beside row = option_and_then (λ id. sysmod_found (beside id) row) (id_in (column row 0))

abbrev pub sysmods_of : (List ℕ → Beside) → List Row → List Sysmod
sysmods_of beside sysmods = filter_map (sysmod_with beside) sysmods

abbrev pub content_of : Stored → Content
content_of stored = record {
  sysmods = catalogue_of (sysmods_of (beside_of stored) stored.sysmods);
  holds = book_of (map Put (filter_map hold_found stored.holds));
}

-- ---- what a client has

-- the SYSMOD and its state, as a row of a zone says them
abbrev pub zone_row_said : Row → Option ZoneRow
zone_row_said row = zone_row_found (shown (2 ∷ 3 ∷ []) row)

-- the rows of a zone as they are stored
abbrev pub rows_as_stored : List Row → List ℕ → List ℕ → List ZoneRow
rows_as_stored rows client zone = filter_map zone_row_said (filter (is_of_both client zone) rows)

-- the first row of each SYSMOD, in ascending order
abbrev pub rows_in_order : List ZoneRow → List ZoneRow
rows_in_order rows =
    filter_map (λ id. find (λ row. bytes_eq row.sysmod id) rows) (in_order (map (λ row. row.sysmod) rows))

abbrev pub zone_rows_of : List Row → List ℕ → List ℕ → List ZoneRow
zone_rows_of rows client zone = rows_in_order (rows_as_stored rows client zone)

abbrev pub patterns_of : List Row → List ℕ → List ℕ → List (List ℕ)
patterns_of heads client zone =
    unwrap_or
    (option_and_then (λ row. patterns_in (column row 2)) (first (filter (is_of_both client zone) heads))) []

abbrev pub zone_of : Stored → List ℕ → List ℕ → ZoneTable
zone_of stored client zone = record {
  rows = zone_rows_of stored.rows client zone;
  patterns = patterns_of stored.heads client zone;
}

-- the names of a client's zones
abbrev pub names_of : List Row → List ℕ → List (List ℕ)
names_of heads client = in_order (filter_map (λ row. id_in (column row 1)) (filter (is_of client) heads))

abbrev pub zones_of : Stored → List ℕ → Zones
zones_of stored client = map (λ zone. (zone, zone_of stored client zone)) (names_of stored.heads client)

-- the SYSMODs that a client has received, as its rows say it
abbrev pub received_said : List Row → List (List ℕ)
received_said rows = unwrap_or (option_and_then (λ row. ids_in (column row 1)) (first rows)) []

abbrev pub received_of : List Row → List ℕ → List (List ℕ)
received_of received client = received_said (filter (is_of client) received)

-- ---- all of it

abbrev pub tables_of : Stored → Tables
tables_of stored = record {
  callers = filter_map caller_found stored.callers;
  content = content_of stored;
  last = last_of stored.changes;
  zones = zones_of stored;
  received = received_of stored.received;
}
