-- What is found of a client's zones, each with how many rows it has.
use Rattle.std.proofs.Common.{◌≡◌, ◌<◌, ℕ, suc, nat_lt, Bool, true, false, cond, ◌&&◌, List, [], ◌∷◌, ◌++◌, length, drop, pos, arith, refl, sym, ◌∙◌, ap, ap₂, subst, subst₂, Some, None}
use Rattle.std.specs.Prelude.{filter, flat_map, map, min, Option, option_map, option_and_then, unwrap_or}
use Rattle.std.specs.List.{Contains, filter_map, list_all}
use Rattle.std.specs.List.Sorted.{IsPermutation}
use Rattle.std.proofs.lemmas.Bool.Decides.{nat_tests}
use Rattle.std.proofs.lemmas.List.{length-map}
use Rattle.std.proofs.lemmas.List.Sorted.{Contains-permutation, IsPermutation-map, IsPermutation-sym}
use Rattle.lemmas.proofs.ListFacts.{first_inside, map_found, map_inside, rest_inside}
use Rattle.mcs_reader.specs.Id.{IsId, text_of}
use Rattle.catalogue.specs.Ids.{Ascend}
use Rattle.catalogue.proofs.IdFacts.{one_id}
use Rattle.bureau_store.specs.Tables.{ZoneTable}
use Rattle.sqlite.specs.Collation.TheVariants.{Binary}
use Rattle.sqlite.specs.Ops.{binary, is_true}
use Rattle.sqlite.specs.Query.{IsAnswer, Output, output}
use Rattle.sqlite.specs.Tree.{Trees}
use Rattle.sqlite_sql.specs.Query.{matches}
use Rattle.sqlite_sql.specs.Term.{Env, holds}
use Rattle.sqlite_sql.specs.declared.ops.BinaryOp.TheVariants.{Compare}
use Rattle.sqlite_sql.specs.declared.ops.CompareOp.TheVariants.{Eq}
use Rattle.sqlite_value.specs.Order.{Row, column}
use Rattle.sqlite_value.specs.declared.value.Value.TheVariants.{Int, Text}
use Rattle.sql_tables.specs.InTrees.{columns_of, stored_in}
use Rattle.sql_tables.specs.Stored.{is_of, is_of_both, names_of, tables_of, zone_of, zone_rows_of}
use Rattle.sql_tables.specs.Values.{id_in, id_value}
use Rattle.sql_tables.specs.Whole.{Head, IsHead, IsWhole, row_of_head}
use Rattle.sql_tables.proofs.RecordFacts.{ids_read}
use Rattle.sql_tables.proofs.TreeFacts.{column_after, filter_after}
use Rattle.sql_tables.proofs.ValueFacts.{id_again, named_value}
use Rattle.sql_texts.specs.Found.{passes}
use Rattle.sql_texts.specs.Reads as read
use Rattle.sql_texts.specs.Reads.{in_the_zone, is_given, most_rows}
use Rattle.sql_reads.specs.ZoneCounts.{with_count, zone_counted}
use Rattle.sql_reads.proofs.ClientFacts.{map_map}
use Rattle.sql_reads.proofs.LengthFacts.{zone_rows_length}
use Rattle.sql_reads.proofs.MemberFacts.{all_of, filtered, made_from, read_from}
use Rattle.sql_tables.proofs.TextFacts.{both_given, of_given}

-- how many rows of the other table are of the zone of a head
abbrev pub rows_counted : Row → List Row → Row → ℕ
rows_counted params seconds first = min most_rows (length (filter (λ second. list_all (holds (params ∷ first ∷ second ∷ [])) in_the_zone) seconds))

-- what is shown of a head
abbrev pub zone_shown : Row → List Row → Row → Row
zone_shown params seconds first = column first 2 ∷ Int (pos (rows_counted params seconds first)) ∷ []

-- a head with each row that is counted for it
abbrev with_rows : Row → List Row → Row → List Env
with_rows params seconds first =
    flat_map (λ second. cond (list_all (holds (params ∷ first ∷ second ∷ [])) in_the_zone) ((params ∷ first ∷ second ∷ []) ∷ []) []) seconds

-- a head with their number
abbrev with_number : Row → Row → ℕ → Env
with_number params first number = params ∷ first ∷ (Int (pos (min most_rows number)) ∷ []) ∷ []

-- the heads that pass, each with its number
abbrev numbered : Row → List Row → List Row → List Env
numbered params seconds heads =
    flat_map (λ first.
    cond (list_all (holds (with_number params first (length (with_rows params seconds first)))) (is_given 1 0 ∷ []))
    (with_number params first (length (with_rows params seconds first)) ∷ []) []) heads

number_of_rows : (params first : Row) (rows : List Row)
    → length (with_rows params rows first) ≡ length (filter (λ second. list_all (holds (params ∷ first ∷ second ∷ [])) in_the_zone) rows)
number_of_rows params first [] = refl
number_of_rows params first (row ∷ rows) = by (list_all (holds (params ∷ first ∷ row ∷ [])) in_the_zone) (number_of_rows params first rows)
  where
    by : (b : Bool) → length (with_rows params rows first) ≡ length (filter (λ second. list_all (holds (params ∷ first ∷ second ∷ [])) in_the_zone) rows)
        → length (cond b ((params ∷ first ∷ row ∷ []) ∷ []) [] ++ with_rows params rows first)
        ≡ length (cond b (row ∷ filter (λ second. list_all (holds (params ∷ first ∷ second ∷ [])) in_the_zone) rows) (filter (λ second. list_all (holds (params ∷ first ∷ second ∷ [])) in_the_zone) rows))
    by true rest = ap suc rest
    by false rest = rest

-- these heads as they are shown
show_heads : (params : Row) (seconds heads : List Row)
    → map (λ (o : Output). o.1) (map (output read.zones) (numbered params seconds heads)) ≡ map (zone_shown params seconds) (filter (passes params (is_given 1 0 ∷ [])) heads)
show_heads params seconds [] = refl
show_heads params seconds (first ∷ heads) =
    by (passes params (is_given 1 0 ∷ []) first) (length (with_rows params seconds first)) (numbered params seconds heads) (number_of_rows params first seconds) (show_heads params seconds heads)
  where
    by : (b : Bool) (number : ℕ) (others : List Env) → number ≡ length (filter (λ second. list_all (holds (params ∷ first ∷ second ∷ [])) in_the_zone) seconds)
        → map (λ (o : Output). o.1) (map (output read.zones) others) ≡ map (zone_shown params seconds) (filter (passes params (is_given 1 0 ∷ [])) heads)
        → map (λ (o : Output). o.1) (map (output read.zones) (cond b (with_number params first number ∷ []) [] ++ others))
        ≡ map (zone_shown params seconds) (cond b (first ∷ filter (passes params (is_given 1 0 ∷ [])) heads) (filter (passes params (is_given 1 0 ∷ [])) heads))
    by true number others many rest = ap₂ (λ m rows. (column first 2 ∷ Int (pos (min most_rows m)) ∷ []) ∷ rows) many rest
    by false number others many rest = rest

pub zones_answer : (db : Trees) (params : Row) (rows : List Row) → IsAnswer read.zones db params rows
    → IsPermutation (map (zone_shown params (db 15)) (filter (passes params (is_given 1 0 ∷ [])) (db 13))) rows
zones_answer db params rows answer =
    let values = λ (outputs : List Output). map (λ (o : Output). o.1) outputs in
    let kept : answer.kept ≡ map (output read.zones) (matches db (is_given 1 0 ∷ []) read.zones.from (params ∷ [])) = answer.distinct ∙ ap (map (output read.zones)) answer.grouped in
    let shuffled : IsPermutation (values answer.kept) (values answer.ordered) = IsPermutation-map (λ (o : Output). o.1) answer.kept answer.ordered answer.same in
    let from : IsPermutation (map (zone_shown params (db 15)) (filter (passes params (is_given 1 0 ∷ [])) (db 13))) (values answer.ordered) =
    subst (λ xs. IsPermutation xs (values answer.ordered)) (ap values kept ∙ show_heads params (db 15) (db 13)) shuffled in
    subst (IsPermutation (map (zone_shown params (db 15)) (filter (passes params (is_given 1 0 ∷ [])) (db 13)))) (sym answer.shown) from

-- ---- what a row says

-- as many as are counted below the greatest number
all_counted : (most many : ℕ) → min most many < most → min most many ≡ many
all_counted most many below = omega (arith, below)

row_parts : (o : Option (List ℕ)) (count : ℕ) (zone : List ℕ × ℕ) → option_and_then (λ name. with_count name count) o ≡ Some zone
    → (o ≡ Some zone.0) × (zone.1 ≡ count) × (count < most_rows)
row_parts None count zone h = cc
row_parts (Some name) count zone h = by (nat_lt count most_rows) refl h
  where
    by : (b : Bool) → nat_lt count most_rows ≡ b → cond b (Some (name, count)) None ≡ Some zone → (Some name ≡ Some zone.0) × (zone.1 ≡ count) × (count < most_rows)
    by true at e = (ap (option_map (λ (z : List ℕ × ℕ). z.0)) e, sym (ap (λ o. unwrap_or (option_map (λ (z : List ℕ × ℕ). z.1) o) count) e), grind (arith, nat_tests))
    by false at e = cc

module _ (trees : Trees) (client : List ℕ) (is : IsId client) (whole : IsWhole (stored_in trees)) where
  abbrev params : Row
  params = Text (text_of client) ∷ []

  -- the heads of the client's zones, after their rowids
  abbrev heads : List Row
  heads = filter (passes params (is_given 1 0 ∷ [])) (trees 13)

  columns_of_heads : columns_of heads ≡ filter (is_of client) (columns_of (trees 13))
  columns_of_heads = filter_after (passes params (is_given 1 0 ∷ [])) (is_of client) (of_given client is) (trees 13)

  -- what is told of a head
  abbrev told : Row → Option (List ℕ × ℕ)
  told head = zone_counted (zone_shown params (trees 15) head)

  -- a zone with how many rows it has
  abbrev sized : List ℕ → List ℕ × ℕ
  sized zone = (zone, length (zone_rows_of (columns_of (trees 15)) client zone))

  module _ (head : Row) (zone : List ℕ) (is_zone : IsId zone) (of : column head 1 ≡ Text (text_of client)) (named : column head 2 ≡ Text (text_of zone)) where
    -- the rows that are counted are those of the zone
    row_counted : (row : Row) → list_all (holds (params ∷ head ∷ row ∷ [])) in_the_zone ≡ is_of_both client zone (drop 1 row)
    row_counted row =
        ap₂ (λ v w. is_true (binary (Compare Eq Binary) (column row 1) v) && (is_true (binary (Compare Eq Binary) (column row 2) w) && true)) of named
        ∙ both_given client zone is is_zone row

    count_is : rows_counted params (trees 15) head ≡ min most_rows (length (zone_rows_of (columns_of (trees 15)) client zone))
    count_is =
        let rows = filter (λ row. list_all (holds (params ∷ head ∷ row ∷ [])) in_the_zone) (trees 15) in
        ap (min most_rows)
        (sym (length-map rows (drop 1))
        ∙ ap length (filter_after (λ row. list_all (holds (params ∷ head ∷ row ∷ [])) in_the_zone) (is_of_both client zone) row_counted (trees 15))
        ∙ sym (zone_rows_length (stored_in trees) whole client zone))

  -- what a head that the bureau wrote says
  head_written : (head : Row) → Contains heads head → (zone : List ℕ) × IsId zone × (column head 1 ≡ Text (text_of client)) × (column head 2 ≡ Text (text_of zone))
  head_written head inside =
      let here = filtered (passes params (is_given 1 0 ∷ [])) (trees 13) head inside in
      let it = all_of (λ row. (x : Head) × IsHead x × (row ≡ row_of_head x)) (columns_of (trees 13)) (drop 1 head) whole.heads (map_inside (drop 1) (trees 13) head here.0) in
      let of : it.0.client ≡ client = one_id it.0.client client (sym (named_value it.0.client client it.1.0) ∙ ap (is_of client) (sym it.2) ∙ sym (of_given client is head) ∙ here.1) in (
        it.0.zone,
        it.1.1,
        sym (column_after head 0) ∙ ap (λ row. column row 0) it.2 ∙ ap id_value of,
        sym (column_after head 1) ∙ ap (λ row. column row 1) it.2,
      )

  -- a head tells its zone, with as many rows as the zone has
  head_told : (head : Row) (zone : List ℕ × ℕ) → Contains heads head → told head ≡ Some zone → (id_in (column head 2) ≡ Some zone.0) × (zone ≡ sized zone.0)
  head_told head zone inside h =
      let parts = row_parts (id_in (column head 2)) (rows_counted params (trees 15) head) zone h in
      let its = head_written head inside in
      let e : Some its.0 ≡ Some zone.0 = sym (ap id_in its.3 ∙ id_again its.0 its.1) ∙ parts.0 in
      let name : its.0 ≡ zone.0 = cc in
      let many : rows_counted params (trees 15) head ≡ min most_rows (length (zone_rows_of (columns_of (trees 15)) client zone.0)) =
      count_is head zone.0 (subst IsId name its.1) its.2 (its.3 ∙ ap id_value name) in
      let below : min most_rows (length (zone_rows_of (columns_of (trees 15)) client zone.0)) < most_rows = subst (λ n. n < most_rows) many parts.2 in
      (parts.0, ap (λ n. (zone.0, n)) (parts.1 ∙ many ∙ all_counted most_rows (length (zone_rows_of (columns_of (trees 15)) client zone.0)) below))

  module _ (rows : List Row) (found : List (List ℕ × ℕ)) (ascend : Ascend (map (λ zone. zone.0) found)) (answer : IsAnswer read.zones trees params rows)
      (said : map Some found ≡ map zone_counted rows) where
    all_told : IsPermutation (map told heads) (map Some found)
    all_told =
        subst₂ IsPermutation (map_map zone_counted (zone_shown params (trees 15)) heads) (sym said)
        (IsPermutation-map zone_counted (map (zone_shown params (trees 15)) heads) rows (zones_answer trees params rows answer))

    -- a zone that is found is told of a head
    from_head : (zone : List ℕ × ℕ) → Contains found zone → (head : Row) × Contains heads head × (told head ≡ Some zone)
    from_head zone inside =
        made_from told heads (Some zone)
        (Contains-permutation (map Some found) (map told heads) (Some zone) (IsPermutation-sym (map told heads) (map Some found) all_told) (map_inside Some found zone inside))

    -- and of each head one is found
    to_zone : (head : Row) → Contains heads head → (zone : List ℕ × ℕ) × Contains found zone × (Some zone ≡ told head)
    to_zone head inside =
        made_from Some found (told head) (Contains-permutation (map told heads) (map Some found) (told head) all_told (map_inside told heads head inside))

    abbrev named_heads : List (List ℕ)
    named_heads = filter_map (λ row. id_in (column row 1)) (filter (is_of client) (columns_of (trees 13)))

    all_named : (id : List ℕ) → Contains named_heads id → Contains (map (λ zone. zone.0) found) id
    all_named id inside =
        let row = read_from (λ row. id_in (column row 1)) (filter (is_of client) (columns_of (trees 13))) id inside in
        let head = made_from (drop 1) heads row.0 (subst (λ rs. Contains rs row.0) (sym columns_of_heads) row.1) in
        let zone = to_zone head.0 head.1 in
        let e : Some id ≡ Some zone.0.0 =
        sym row.2 ∙ ap (λ r. id_in (column r 1)) (sym head.2) ∙ ap id_in (column_after head.0 1) ∙ (head_told head.0 zone.0 head.1 (sym zone.2)).0 in
        let same : zone.0.0 ≡ id = cc in
        subst (Contains (map (λ z. z.0) found)) same (map_inside (λ (z : List ℕ × ℕ). z.0) found zone.0 zone.1)

    only_named : (id : List ℕ) → Contains (map (λ zone. zone.0) found) id → Contains named_heads id
    only_named id inside =
        let zone = made_from (λ (z : List ℕ × ℕ). z.0) found id inside in
        let head = from_head zone.0 zone.1 in
        map_found (λ row. id_in (column row 1)) (filter (is_of client) (columns_of (trees 13))) (drop 1 head.0) id
        (subst (λ rs. Contains rs (drop 1 head.0)) columns_of_heads (map_inside (drop 1) heads head.0 head.1))
        (ap id_in (column_after head.0 1) ∙ (head_told head.0 zone.0 head.1 head.2).0 ∙ ap Some zone.2)

    -- each zone that is found has its count
    all_sized : (some : List (List ℕ × ℕ)) → ((zone : List ℕ × ℕ) → Contains some zone → Contains found zone) → some ≡ map sized (map (λ zone. zone.0) some)
    all_sized [] inside = refl
    all_sized (zone ∷ some) inside =
        let head = from_head zone (inside zone (first_inside zone some)) in
        ap₂ (λ z zs. z ∷ zs) (head_told head.0 zone head.1 head.2).1 (all_sized some (λ z h. inside z (rest_inside zone z some h)))

    pub zones_told : found ≡ map (λ (zone : List ℕ × ZoneTable). (zone.0, length zone.1.rows)) ((tables_of (stored_in trees)).zones client)
    zones_told =
        all_sized found (λ zone inside. inside)
        ∙ ap (map sized) (ids_read named_heads (map (λ zone. zone.0) found) ascend all_named only_named)
        ∙ sym (map_map (λ (zone : List ℕ × ZoneTable). (zone.0, length zone.1.rows)) (λ zone. (zone, zone_of (stored_in trees) client zone)) (names_of (columns_of (trees 13)) client))
