-- What the rows say of each client, and what a client's change makes of it.
use Rattle.std.proofs.Common.{◌≡◌, ℕ, Bool, true, false, cond, ◌&&◌, ◌||◌, List, [], ◌∷◌, refl, sym, ◌∙◌, ap, if◌then◌else◌}
use Rattle.std.specs.Prelude.{filter, map, Option, Some, None, option_map, unwrap_or}
use Rattle.std.specs.List.{filter_map, cons_option, list_any}
use Rattle.std.proofs.lemmas.Bool.{and_parts}
use Rattle.std.proofs.Math.Bool.{and-false}
use Rattle.mcs_reader.specs.Id.{IsId}
use Rattle.zone_lists.specs.declared.zones.ZoneRow.{ZoneRow}
use Rattle.catalogue.specs.Ids.{same_id}
use Rattle.catalogue.proofs.IdFacts.{in_order_any, in_order_ascends}
use Rattle.bureau_store.specs.Tables.{ZoneTable, zone_named}
use Rattle.sqlite_value.specs.Order.{Row, column}
use Rattle.sqlite_value.specs.declared.value.Value.{Value}
use Rattle.sql_tables.specs.Fit.{AreZoneRows, IsZoneRow}
use Rattle.sql_tables.specs.Rows.{zone_row}
use Rattle.sql_tables.specs.Stored.{Stored, is_named, is_of, is_of_both, names_of, rows_in_order, zone_of, zone_row_said, zone_rows_of, zones_of}
use Rattle.sql_tables.specs.Values.{id_in, id_value}
use Rattle.sql_tables.proofs.ListFacts.{read_again}
use Rattle.sql_tables.proofs.OrderFacts.{KeysAscend, by_key_same, each_name, each_with, looked_up, name_in, with_key}
use Rattle.sql_tables.proofs.RowFacts.{zone_row_again}
use Rattle.sql_tables.proofs.ValueFacts.{named_apart, named_itself}

-- ---- which rows belong to whom

-- no row is of two clients
pub of_apart : (client other : List ℕ) → same_id client other ≡ false → (row : Row) → is_of client row ≡ true → is_of other row ≡ false
of_apart client other apart row at = named_apart client other (column row 0) apart at

-- no row is of a zone of one and a zone of another
pub zones_apart : (client other zone next : List ℕ) → same_id client other ≡ false → (row : Row) → is_of_both client zone row ≡ true → is_of_both other next row ≡ false
zones_apart client other zone next apart row at =
    ap (λ b. b && is_named next (column row 1)) (named_apart client other (column row 0) apart (and_parts (is_of client row) (is_named zone (column row 1)) at).0)

-- nor of two zones of one
pub names_apart : (client zone next : List ℕ) → same_id zone next ≡ false → (row : Row) → is_of_both client zone row ≡ true → is_of_both client next row ≡ false
names_apart client zone next apart row at =
    ap (λ b. is_of client row && b) (named_apart zone next (column row 1) apart (and_parts (is_of client row) (is_named zone (column row 1)) at).1)
    ∙ and-false (is_of client row)

-- a row that is made is of its client and its zone, and of no other
module _ (client zone : List ℕ) (is_client : IsId client) (is_zone : IsId zone) (more : List Value) where
  pub made_here : is_of_both client zone (id_value client ∷ id_value zone ∷ more) ≡ true
  made_here = ap (λ b. b && is_named zone (id_value zone)) (named_itself client is_client) ∙ named_itself zone is_zone

  pub made_elsewhere : (name : List ℕ) → same_id zone name ≡ false → is_of_both client name (id_value client ∷ id_value zone ∷ more) ≡ false
  made_elsewhere name apart = names_apart client zone name apart (id_value client ∷ id_value zone ∷ more) made_here

  pub made_by_another : (other name : List ℕ) → same_id client other ≡ false → is_of_both other name (id_value client ∷ id_value zone ∷ more) ≡ false
  made_by_another other name apart = zones_apart client other zone name apart (id_value client ∷ id_value zone ∷ more) made_here

-- ---- the zones of a client

names_any : (rows : List Row) (client zone : List ℕ)
    → list_any (λ name. same_id name zone) (filter_map (λ row. id_in (column row 1)) (filter (is_of client) rows)) ≡ list_any (is_of_both client zone) rows
names_any [] client zone = refl
names_any (row ∷ rows) client zone = by (is_of client row) (id_in (column row 1)) refl (names_any rows client zone)
  where
    rest : List Row
    rest = filter (is_of client) rows

    by : (b : Bool) (o : Option (List ℕ)) → id_in (column row 1) ≡ o
        → list_any (λ name. same_id name zone) (filter_map (λ r. id_in (column r 1)) rest) ≡ list_any (is_of_both client zone) rows
        → list_any (λ name. same_id name zone) (filter_map (λ r. id_in (column r 1)) (cond b (row ∷ rest) rest))
        ≡ ((b && is_named zone (column row 1)) || list_any (is_of_both client zone) rows)
    by false o is later = later
    by true None is later =
        ap (λ found. list_any (λ name. same_id name zone) (cons_option found (filter_map (λ r. id_in (column r 1)) rest))) is
        ∙ later
        ∙ sym (ap (λ found. unwrap_or (option_map (λ x. same_id x zone) found) false || list_any (is_of_both client zone) rows) is)
    by true (Some name) is later =
        ap (λ found. list_any (λ n. same_id n zone) (cons_option found (filter_map (λ r. id_in (column r 1)) rest))) is
        ∙ ap (λ b. same_id name zone || b) later
        ∙ sym (ap (λ found. unwrap_or (option_map (λ x. same_id x zone) found) false || list_any (is_of_both client zone) rows) is)

pub zone_there : (heads : List Row) (client zone : List ℕ) → list_any (λ name. same_id name zone) (names_of heads client) ≡ list_any (is_of_both client zone) heads
zone_there heads client zone =
    in_order_any (λ name. same_id name zone) (filter_map (λ row. id_in (column row 1)) (filter (is_of client) heads)) ∙ names_any heads client zone

-- what stands under a zone's name
pub zones_with : (stored : Stored) (client zone : List ℕ)
    → with_key name_in (zones_of stored client) zone ≡ (if list_any (is_of_both client zone) stored.heads then Some (zone, zone_of stored client zone) else None)
zones_with stored client zone =
    each_with (zone_of stored client) (names_of stored.heads client) zone
    ∙ ap (λ b. cond b (Some (zone, zone_of stored client zone)) None) (zone_there stored.heads client zone)

pub zones_ascend : (stored : Stored) (client : List ℕ) → KeysAscend name_in (zones_of stored client)
zones_ascend stored client =
    rw (each_name (zone_of stored client) (names_of stored.heads client)) (in_order_ascends (filter_map (λ row. id_in (column row 1)) (filter (is_of client) stored.heads)))

pub zone_found : (stored : Stored) (client zone : List ℕ)
    → zone_named zone (zones_of stored client) ≡ (if list_any (is_of_both client zone) stored.heads then Some (zone_of stored client zone) else None)
zone_found stored client zone =
    looked_up (zones_of stored client) zone
    ∙ ap (option_map (λ e. e.1)) (zones_with stored client zone)
    ∙ by (list_any (is_of_both client zone) stored.heads)
  where
    by : (b : Bool) → option_map (λ (e : List ℕ × ZoneTable). e.1) (cond b (Some (zone, zone_of stored client zone)) None) ≡ cond b (Some (zone_of stored client zone)) None
    by true = refl
    by false = refl

-- ---- the rows of a zone that is put

-- rows that are put are those that are read
pub rows_put : (client zone : List ℕ) (rows : List ZoneRow) → IsId client → IsId zone → AreZoneRows rows
    → (all : List Row) → filter (is_of_both client zone) all ≡ map (zone_row client zone) rows → zone_rows_of all client zone ≡ rows
rows_put client zone rows is_client is_zone fit all has =
    ap (λ rs. rows_in_order (filter_map zone_row_said rs)) has
    ∙ ap rows_in_order (read_again IsZoneRow (zone_row client zone) zone_row_said (zone_row_again client zone) rows fit.each)
    ∙ by_key_same (λ row. row.sysmod) rows fit.ascend
