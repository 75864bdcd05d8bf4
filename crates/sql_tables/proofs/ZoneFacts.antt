-- What a client's change makes of the zones and of the received list.
use Rattle.std.proofs.Common.{◌≡◌, ℕ, Bool, true, false, cond, List, [], ◌∷◌, ◌++◌, refl, sym, ◌∙◌, ap, if◌then◌else◌}
use Rattle.std.specs.Prelude.{drop, filter, map, Option, Some, None, is_some, option_and_then, unwrap_or}
use Rattle.std.specs.List.{filter_map, list_any, list_all}
use Rattle.std.proofs.lemmas.List.{append-nil}
use Rattle.std.proofs.lemmas.List.Elements.{filter-append}
use Rattle.mcs_reader.specs.Id.{IsId}
use Rattle.zone_lists.specs.Pattern.{is_pattern}
use Rattle.zone_lists.specs.declared.zones.ZoneRow.{ZoneRow}
use Rattle.catalogue.specs.Ids.{same_id}
use Rattle.catalogue.proofs.IdFacts.{one_id, same_back}
use Rattle.bureau_store.specs.Effect.{Effect, publication, zone_put, zone_dropped, received_put, patterns_put, zones_after}
use Rattle.bureau_store.specs.Tables as tables
use Rattle.bureau_store.specs.Tables.{ZoneTable, rows_of, zone_named}
use Rattle.sqlite_value.specs.Order.{Row, column}
use Rattle.sql_tables.specs.Changes.{client_changed, replaced, with_head}
use Rattle.sql_tables.specs.Fit.{AreZoneRows, IsFit}
use Rattle.sql_tables.specs.Rows.{head_row, zone_row}
use Rattle.sql_tables.specs.Stored.{Stored, first, is_of_both, patterns_of, rows_in_order, zone_of, zone_row_said, zone_rows_of, zones_of}
use Rattle.sql_tables.specs.Values.{patterns_in}
use Rattle.sql_tables.proofs.ClientFacts.{made_by_another, made_elsewhere, made_here, names_apart, rows_put, zone_found, zones_apart, zones_ascend, zones_with}
use Rattle.sql_tables.proofs.ListFacts.{any_first, filter_all, filter_none, filter_other, filter_same}
use Rattle.sql_tables.proofs.ListValueFacts.{patterns_again}
use Rattle.sql_tables.proofs.OrderFacts.{gone_ascends, gone_with, name_in, put_ascends, put_with, same_by_key, with_key}

-- ---- a zone by the rows that belong to it

abbrev Found : Type 0
Found = Option (List ℕ × ZoneTable)

abbrev table_by : List Row → List Row → ZoneTable
table_by heads rows = record {
  rows = rows_in_order (filter_map zone_row_said rows);
  patterns = unwrap_or (option_and_then (λ row. patterns_in (column row 2)) (first heads)) [];
}

abbrev found_by : List ℕ → List Row → List Row → Found
found_by zone heads rows = if is_some (first heads) then Some (zone, table_by heads rows) else None

found_is : (stored : Stored) (client zone : List ℕ)
    → with_key name_in (zones_of stored client) zone ≡ found_by zone (filter (is_of_both client zone) stored.heads) (filter (is_of_both client zone) stored.rows)
found_is stored client zone =
    zones_with stored client zone ∙ ap (λ b. cond b (Some (zone, zone_of stored client zone)) None) (any_first (is_of_both client zone) stored.heads)

-- zones of which each belongs to the same rows are the same
pub same_zones : (old new : Stored) (client : List ℕ)
    → ((zone : List ℕ) → filter (is_of_both client zone) new.heads ≡ filter (is_of_both client zone) old.heads)
    → ((zone : List ℕ) → filter (is_of_both client zone) new.rows ≡ filter (is_of_both client zone) old.rows)
    → zones_of new client ≡ zones_of old client
same_zones old new client heads rows =
    same_by_key name_in (zones_of new client) (zones_of old client) (zones_ascend new client) (zones_ascend old client) (λ zone.
    found_is new client zone
    ∙ ap (λ hs. found_by zone hs (filter (is_of_both client zone) new.rows)) (heads zone)
    ∙ ap (found_by zone (filter (is_of_both client zone) old.heads)) (rows zone)
    ∙ sym (found_is old client zone))

-- ---- the rows that belong to a zone, after a change

-- a head comes where there is none
headed : (test : Row → Bool) (client zone : List ℕ) (heads : List Row) → test (head_row client zone []) ≡ false → filter test (with_head client zone heads) ≡ filter test heads
headed test client zone heads fails = by (list_any (is_of_both client zone) heads)
  where
    by : (b : Bool) → filter test (cond b heads (heads ++ head_row client zone [] ∷ [])) ≡ filter test heads
    by true = refl
    by false =
        filter-append test heads (head_row client zone [] ∷ [])
        ∙ ap (λ b. filter test heads ++ cond b (head_row client zone [] ∷ []) []) fails
        ∙ append-nil (filter test heads)

-- of another client
pub heads_other : (client name zone : List ℕ) (e : Effect) → IsId client → IsFit e → same_id client name ≡ false → (stored : Stored)
    → filter (is_of_both name zone) (client_changed client e stored).heads ≡ filter (is_of_both name zone) stored.heads
heads_other client name zone (publication changes) is fit other stored = refl
heads_other client name zone (zone_put put rows) is fit other stored =
    headed (is_of_both name zone) client put stored.heads (made_by_another client put is fit.0 (drop 2 (head_row client put [])) name zone other)
heads_other client name zone (zone_dropped put) is fit other stored =
    filter_other (is_of_both name zone) (is_of_both client put) [] stored.heads (zones_apart name client zone put (back client name other)) refl
  where
    back : (a b : List ℕ) → same_id a b ≡ false → same_id b a ≡ false
    back a b h = same_back b a ∙ h
heads_other client name zone (received_put ids) is fit other stored = refl
heads_other client name zone (patterns_put put patterns) is fit other stored =
    filter_other (is_of_both name zone) (is_of_both client put) (head_row client put patterns ∷ []) stored.heads
    (zones_apart name client zone put (same_back name client ∙ other))
    (ap (λ b. cond b (head_row client put patterns ∷ []) []) (made_by_another client put is fit.0 (drop 2 (head_row client put patterns)) name zone other))

pub rows_other : (client name zone : List ℕ) (e : Effect) → IsId client → IsFit e → same_id client name ≡ false → (stored : Stored)
    → filter (is_of_both name zone) (client_changed client e stored).rows ≡ filter (is_of_both name zone) stored.rows
rows_other client name zone (publication changes) is fit other stored = refl
rows_other client name zone (zone_put put news) is fit other stored =
    filter_other (is_of_both name zone) (is_of_both client put) (map (zone_row client put) news) stored.rows
    (zones_apart name client zone put (same_back name client ∙ other))
    (filter_none (is_of_both name zone) (zone_row client put) (λ row. made_by_another client put is fit.0 (drop 2 (zone_row client put row)) name zone other) news)
rows_other client name zone (zone_dropped put) is fit other stored =
    filter_other (is_of_both name zone) (is_of_both client put) [] stored.rows (zones_apart name client zone put (same_back name client ∙ other)) refl
rows_other client name zone (received_put ids) is fit other stored = refl
rows_other client name zone (patterns_put put patterns) is fit other stored = refl

-- ---- the client's own zones

abbrev table : List ZoneRow → List (List ℕ) → ZoneTable
table rows patterns = record { rows = rows; patterns = patterns }

pub nothing_first : (rows : List Row) → is_some (first rows) ≡ false → rows ≡ []
nothing_first [] h = refl
nothing_first (row ∷ rows) h = cc

-- what stands under one name is set, and the others stay
set_one : (zone name : List ℕ) (find : List ℕ → Found) (v : ZoneTable) (was : Found) → find zone ≡ Some (zone, v) → (same_id zone name ≡ false → find name ≡ was)
    → find name ≡ cond (same_id zone name) (Some (zone, v)) was
set_one zone name find v was here elsewhere = by (same_id zone name) refl
  where
    by : (b : Bool) → same_id zone name ≡ b → find name ≡ cond b (Some (zone, v)) was
    by true at = ap find (sym (one_id zone name at)) ∙ here
    by false at = elsewhere at

module _ (old : Stored) (client zone : List ℕ) (is_client : IsId client) (is_zone : IsId zone) where
  abbrev any_here : Bool
  any_here = list_any (is_of_both client zone) old.heads

  -- rows are put into a zone
  module _ (news : List ZoneRow) (fit : AreZoneRows news) where
    abbrev pub put : Stored
    put = record old { heads = with_head client zone old.heads; rows = replaced (is_of_both client zone) (map (zone_row client zone) news) old.rows }

    rows_here : filter (is_of_both client zone) (replaced (is_of_both client zone) (map (zone_row client zone) news) old.rows) ≡ map (zone_row client zone) news
    rows_here =
        filter_same (is_of_both client zone) (map (zone_row client zone) news) old.rows
        ∙ filter_all (is_of_both client zone) (zone_row client zone) (λ row. made_here client zone is_client is_zone (drop 2 (zone_row client zone row))) news

    rows_elsewhere : (name : List ℕ) → same_id zone name ≡ false
        → filter (is_of_both client name) (replaced (is_of_both client zone) (map (zone_row client zone) news) old.rows) ≡ filter (is_of_both client name) old.rows
    rows_elsewhere name apart =
        filter_other (is_of_both client name) (is_of_both client zone) (map (zone_row client zone) news) old.rows
        (names_apart client name zone (same_back name zone ∙ apart))
        (filter_none (is_of_both client name) (zone_row client zone) (λ row. made_elsewhere client zone is_client is_zone (drop 2 (zone_row client zone row)) name apart) news)

    heads_here : (b : Bool) → any_here ≡ b
        → found_by zone (filter (is_of_both client zone) (cond b old.heads (old.heads ++ head_row client zone [] ∷ []))) (filter (is_of_both client zone) (replaced (is_of_both client zone) (map (zone_row client zone) news) old.rows))
        ≡ Some (zone, table news (tables.patterns_of (cond b (Some (zone_of old client zone)) None)))
    heads_here b any = both b any (rows_put client zone news is_client is_zone fit (replaced (is_of_both client zone) (map (zone_row client zone) news) old.rows) rows_here)
      where
        both : (c : Bool) → any_here ≡ c → zone_rows_of (replaced (is_of_both client zone) (map (zone_row client zone) news) old.rows) client zone ≡ news
            → found_by zone (filter (is_of_both client zone) (cond c old.heads (old.heads ++ head_row client zone [] ∷ []))) (filter (is_of_both client zone) (replaced (is_of_both client zone) (map (zone_row client zone) news) old.rows))
            ≡ Some (zone, table news (tables.patterns_of (cond c (Some (zone_of old client zone)) None)))
        both true at rows =
            ap (λ c. cond c (Some (zone, table_by (filter (is_of_both client zone) old.heads) (filter (is_of_both client zone) (replaced (is_of_both client zone) (map (zone_row client zone) news) old.rows)))) None)
            (sym (any_first (is_of_both client zone) old.heads) ∙ at)
            ∙ ap (λ rs. Some (zone, table rs (patterns_of old.heads client zone))) rows
        both false at rows =
            ap (λ hs. found_by zone hs (filter (is_of_both client zone) (replaced (is_of_both client zone) (map (zone_row client zone) news) old.rows))) (
            filter-append (is_of_both client zone) old.heads (head_row client zone [] ∷ [])
            ∙ ap (λ hs. hs ++ filter (is_of_both client zone) (head_row client zone [] ∷ [])) (nothing_first (filter (is_of_both client zone) old.heads) (sym (any_first (is_of_both client zone) old.heads) ∙ at))
            ∙ ap (λ c. cond c (head_row client zone [] ∷ []) []) (made_here client zone is_client is_zone (drop 2 (head_row client zone [])))
            )
            ∙ ap (λ rs. Some (zone, table rs [])) rows

    pub zones_put : zones_of put client ≡ zones_after (zone_put zone news) (zones_of old client)
    zones_put =
        same_by_key name_in (zones_of put client) (zones_after (zone_put zone news) (zones_of old client)) (zones_ascend put client) (put_ascends (zones_of old client) zone v (zones_ascend old client)) (λ name.
        found_is put client name
        ∙ set_one zone name (λ n. found_by n (filter (is_of_both client n) put.heads) (filter (is_of_both client n) put.rows)) v (with_key name_in (zones_of old client) name)
        (heads_here any_here refl ∙ ap (λ o. Some (zone, table news (tables.patterns_of o))) (sym (zone_found old client zone)))
        (λ apart.
        ap (λ hs. found_by name hs (filter (is_of_both client name) put.rows)) (headed (is_of_both client name) client zone old.heads (made_elsewhere client zone is_client is_zone (drop 2 (head_row client zone [])) name apart))
        ∙ ap (found_by name (filter (is_of_both client name) old.heads)) (rows_elsewhere name apart)
        ∙ sym (found_is old client name))
        ∙ sym (put_with (zones_of old client) zone v name))
      where
        v : ZoneTable
        v = table news (tables.patterns_of (zone_named zone (zones_of old client)))

  -- the zone goes
  abbrev pub dropped : Stored
  dropped = record old { heads = replaced (is_of_both client zone) [] old.heads; rows = replaced (is_of_both client zone) [] old.rows }

  pub zones_dropped : zones_of dropped client ≡ zones_after (zone_dropped zone) (zones_of old client)
  zones_dropped =
      same_by_key name_in (zones_of dropped client) (zones_after (zone_dropped zone) (zones_of old client)) (zones_ascend dropped client) (gone_ascends (zones_of old client) zone (zones_ascend old client)) (λ name.
      found_is dropped client name
      ∙ by name (same_id zone name) refl
      ∙ sym (gone_with (zones_of old client) zone name (zones_ascend old client)))
    where
      by : (name : List ℕ) (b : Bool) → same_id zone name ≡ b
          → found_by name (filter (is_of_both client name) dropped.heads) (filter (is_of_both client name) dropped.rows) ≡ cond b None (with_key name_in (zones_of old client) name)
      by name true at =
          let same : zone ≡ name = one_id zone name at in
          ap (λ n. found_by n (filter (is_of_both client n) dropped.heads) (filter (is_of_both client n) dropped.rows)) (sym same)
          ∙ ap (λ hs. found_by zone hs (filter (is_of_both client zone) dropped.rows)) (filter_same (is_of_both client zone) [] old.heads)
      by name false at =
          let apart = names_apart client name zone (same_back name zone ∙ at) in
          ap (λ hs. found_by name hs (filter (is_of_both client name) dropped.rows)) (filter_other (is_of_both client name) (is_of_both client zone) [] old.heads apart refl)
          ∙ ap (found_by name (filter (is_of_both client name) old.heads)) (filter_other (is_of_both client name) (is_of_both client zone) [] old.rows apart refl)
          ∙ sym (found_is old client name)

  -- patterns are put into a zone that is there
  module _ (patterns : List (List ℕ)) (fit : list_all is_pattern patterns ≡ true) (there : any_here ≡ true) where
    abbrev pub asked : Stored
    asked = record old { heads = replaced (is_of_both client zone) (head_row client zone patterns ∷ []) old.heads }

    asked_here : found_by zone (filter (is_of_both client zone) asked.heads) (filter (is_of_both client zone) old.rows)
        ≡ Some (zone, table (rows_of (zone_named zone (zones_of old client))) patterns)
    asked_here =
        ap (λ hs. found_by zone hs (filter (is_of_both client zone) old.rows)) (
        filter_same (is_of_both client zone) (head_row client zone patterns ∷ []) old.heads
        ∙ ap (λ c. cond c (head_row client zone patterns ∷ []) []) (made_here client zone is_client is_zone (drop 2 (head_row client zone patterns)))
        )
        ∙ ap (λ o. Some (zone, table (zone_rows_of old.rows client zone) (unwrap_or o []))) (patterns_again patterns fit)
        ∙ ap (λ o. Some (zone, table (rows_of o) patterns)) (sym (zone_found old client zone ∙ ap (λ b. cond b (Some (zone_of old client zone)) None) there))

    pub zones_asked : zones_of asked client ≡ zones_after (patterns_put zone patterns) (zones_of old client)
    zones_asked =
        same_by_key name_in (zones_of asked client) (zones_after (patterns_put zone patterns) (zones_of old client)) (zones_ascend asked client) (put_ascends (zones_of old client) zone v (zones_ascend old client)) (λ name.
        found_is asked client name
        ∙ set_one zone name (λ n. found_by n (filter (is_of_both client n) asked.heads) (filter (is_of_both client n) old.rows)) v (with_key name_in (zones_of old client) name)
        asked_here
        (λ apart.
        ap (λ hs. found_by name hs (filter (is_of_both client name) old.rows))
        (filter_other (is_of_both client name) (is_of_both client zone) (head_row client zone patterns ∷ []) old.heads (names_apart client name zone (same_back name zone ∙ apart))
        (ap (λ b. cond b (head_row client zone patterns ∷ []) []) (made_elsewhere client zone is_client is_zone (drop 2 (head_row client zone patterns)) name apart)))
        ∙ sym (found_is old client name))
        ∙ sym (put_with (zones_of old client) zone v name))
      where
        v : ZoneTable
        v = table (rows_of (zone_named zone (zones_of old client))) patterns
