-- What rows say of a store, and what they don't.
use Rattle.std.proofs.Common.{◌≡◌, ◌<◌, ◌+◌, ◌∙◌, ℕ, Bool, true, false, cond, List, [], ◌∷◌, Option, None, Some, ap, length, refl, subst, sym}
use Rattle.std.proofs.lemmas.List.{length-map}
use Rattle.std.proofs.lemmas.List.Sums.{sum_by-cons}
use Rattle.std.proofs.lemmas.Slice.Eq.{bytes_eq-Decides}
use Rattle.std.specs.Prelude.{map, nat_lt, option_and_then, option_map, sum_by, unwrap_or}
use Rattle.bureau_store.specs.Caller.{caller_named, is_publisher, publisher_name}
use Rattle.bureau_store.specs.Tables.{LastChange, ZoneTable, Zones, no_change}
use Rattle.bureau_store.specs.declared.caller.Caller.TheVariants.{Client, Publisher}
use Rattle.lemmas.proofs.TestFacts.{less_number}
use Rattle.mcs_reader.specs.Id.{IsId, text_of}
use Rattle.sqlite.specs.Query.{IsAnswer}
use Rattle.sqlite.specs.Tree.{Trees}
use Rattle.sqlite_value.specs.Order.{Row, column}
use Rattle.sqlite_value.specs.declared.value.Value.TheVariants.{Text}
use Rattle.sql_reads.specs.Answering.{one_of}
use Rattle.sql_reads.specs.ZoneCounts.{zone_counted}
use Rattle.sql_reads.proofs.ClientFacts.{last_told}
use Rattle.sql_reads.proofs.UnsaidFacts.{one_list}
use Rattle.sql_reads.proofs.ZoneFacts.{zones_told}
use Rattle.sql_tables.specs.InTrees.{stored_in}
use Rattle.sql_tables.specs.Rows.{change_found}
use Rattle.sql_tables.specs.Stored.{name_of, tables_of}
use Rattle.sql_tables.specs.Values.{number_in}
use Rattle.sql_tables.specs.Whole.{IsWhole}
use Rattle.sql_texts.specs.Reads as read
use Rattle.sql_checks.specs.Refused.{IsCountOf, SaysCount, SaysLast, SaysZones, counted}

-- ---- rows that say nothing

-- zones that can't be counted leave their rows unsaid
pub uncounted : (rows : List Row) (zones : List (List ℕ × ℕ)) → map Some zones ≡ map zone_counted rows → ((counts : ℕ × ℕ) → IsCountOf zones counts → ⊥) → (counts : ℕ × ℕ) → SaysZones rows counts → ⊥
uncounted rows zones are none counts said = none counts (subst (λ all. IsCountOf all counts) (one_list said.0 zones (said.1 ∙ sym are)) said.2)

-- ---- what is said is so

-- a count
pub count_parts : (rows : List Row) (count : ℕ) → SaysCount rows count → (one_of (λ row. number_in (column row 0)) rows ≡ Some (Some count)) × (count < 9223372036854775807)
count_parts [] count said = cc
count_parts (row ∷ other ∷ rows) count said = cc
count_parts (row ∷ []) count said = by (number_in (column row 0)) said
  where
    tested : (n : ℕ) (b : Bool) → nat_lt n read.most_rows ≡ b → cond b (Some n) None ≡ Some count → (Some (Some n) ≡ Some (Some count)) × (count < 9223372036854775807)
    tested n true below said =
        let same : n ≡ count = cc in (ap (λ m. Some (Some m)) same, subst (λ m. m < 9223372036854775807) same (less_number n read.most_rows below))
    tested n false below said = cc

    by : (o : Option ℕ) → option_and_then counted o ≡ Some count → (option_map Some o ≡ Some (Some count)) × (count < 9223372036854775807)
    by None said = cc
    by (Some n) said = tested n (nat_lt n read.most_rows) refl said

-- the caller of a name has that name
own_name : (name : List ℕ) → name_of (caller_named name) ≡ Some name
own_name name = by (is_publisher name) refl
  where
    by : (b : Bool) → is_publisher name ≡ b → name_of (cond b Publisher (Client name)) ≡ Some name
    by true is = ap Some (sym ((bytes_eq-Decides name publisher_name).0 is))
    by false is = ap (λ b. cond b None (Some name)) is

-- the number of a last change
of_change : (change found : LastChange) (number : ℕ) → number ≡ change.number → change ≡ found → number ≡ found.number
of_change change found number is same = is ∙ ap (λ (c : LastChange). c.number) same

pub last_number : (trees : Trees) (name : List ℕ) (rows : List Row) (number : ℕ) → IsId name → IsAnswer read.last_change trees (Text (text_of name) ∷ []) rows → SaysLast rows number
    → number ≡ ((tables_of (stored_in trees)).last (caller_named name)).number
last_number trees name rows number is answer said =
    let it = parts rows said in
    of_change it.0 ((tables_of (stored_in trees)).last (caller_named name)) number it.2 (last_told trees (caller_named name) name rows it.0 is (own_name name) answer it.1)
  where
    by : (o : Option LastChange) → option_map (λ (change : LastChange). change.number) o ≡ Some number
        → (change : LastChange) × (option_map (λ found. unwrap_or found no_change) (option_map Some o) ≡ Some change) × (number ≡ change.number)
    by None said = cc
    by (Some change) said = let same : change.number ≡ number = cc in (change, refl, sym same)

    parts : (rows : List Row) → SaysLast rows number → (change : LastChange) × (option_map (λ found. unwrap_or found no_change) (one_of change_found rows) ≡ Some change) × (number ≡ change.number)
    parts [] said = let same : 0 ≡ number = cc in (no_change, refl, sym same)
    parts (row ∷ []) said = by (change_found row) said
    parts (row ∷ other ∷ rows) said = cc

-- zones
-- a zone with how many rows it has
abbrev sized : List ℕ × ZoneTable → List ℕ × ℕ
sized zone = (zone.0, length zone.1.rows)

abbrev many : List ℕ × ℕ → ℕ
many zone = zone.1

abbrev rows_in : List ℕ × ZoneTable → ℕ
rows_in zone = length zone.1.rows

all_rows : (zones : Zones) → sum_by many (map sized zones) ≡ sum_by rows_in zones
all_rows [] = refl
all_rows (zone ∷ zones) =
    sum_by-cons many (sized zone) (map sized zones) ∙ ap (λ n. length zone.1.rows + n) (all_rows zones) ∙ sym (sum_by-cons rows_in zone zones)

pub zones_counted : (trees : Trees) (name : List ℕ) → IsId name → IsWhole (stored_in trees) → (rows : List Row) (counts : ℕ × ℕ) → IsAnswer read.zones trees (Text (text_of name) ∷ []) rows → SaysZones rows counts
    → (counts.0 ≡ length ((tables_of (stored_in trees)).zones name)) × (counts.1 ≡ sum_by (λ zone. length zone.1.rows) ((tables_of (stored_in trees)).zones name))
zones_counted trees name is whole rows counts answer said =
    let zones = (tables_of (stored_in trees)).zones name in
    let are : said.0 ≡ map sized zones = zones_told trees name is whole rows said.0 said.2.ascend answer said.1 in
    (said.2.many ∙ ap length are ∙ length-map zones sized, said.2.total ∙ ap (sum_by many) are ∙ all_rows zones)
