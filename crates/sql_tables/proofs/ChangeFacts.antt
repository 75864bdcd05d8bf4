-- What a client's change makes of the rows is what it makes of the tables.
use Rattle.std.proofs.Common.{◌≡◌, ℕ, Bool, true, false, cond, List, [], ◌∷◌, refl, sym, ◌∙◌, ap, if◌then◌else◌}
use Rattle.std.specs.Prelude.{filter, fold, map, Some, None, is_some, option_and_then, unwrap_or}
use Rattle.std.specs.List.{AllByRecursion, filter_map, list_any}
use Rattle.mcs_reader.specs.Id.{IsId}
use Rattle.catalogue.specs.Content.{Content}
use Rattle.catalogue.specs.Ids.{same_id}
use Rattle.catalogue.specs.declared.change.Change.{Change}
use Rattle.catalogue.specs.declared.change.Change.TheVariants.{Whole, OfHold}
use Rattle.catalogue.proofs.IdFacts.{one_id, same_back}
use Rattle.bureau_store.proofs.StoreFacts.{same_tables}
use Rattle.bureau_store.specs.Caller.{is_caller, is_publisher, publisher_name}
use Rattle.bureau_store.specs.Effect as effect
use Rattle.bureau_store.specs.Effect.{Effect, publication, zone_put, zone_dropped, received_put, patterns_put, zones_after}
use Rattle.bureau_store.specs.Tables as tables
use Rattle.bureau_store.specs.Tables.{AreInOrder, LastChange, no_change}
use Rattle.bureau_store.specs.declared.caller.Caller.{Caller}
use Rattle.bureau_store.specs.declared.caller.Caller.TheVariants.{Publisher, Client}
use Rattle.bureau_store.specs.declared.caller.CallerRow.{CallerRow}
use Rattle.sqlite_value.specs.Order.{Row}
use Rattle.sql_tables.specs.Changes.{changed, client_changed, published, replaced, stored_after, with_last}
use Rattle.sql_tables.specs.Fit.{CanBeMade, IsFit, IsNamed, IsOwn}
use Rattle.sql_tables.specs.Rows.{caller_found, caller_row, change_row, received_row}
use Rattle.sql_tables.specs.Stored.{Stored, change_of, change_said, content_of, is_of, is_of_both, last_of, name_of, opened, received_of, received_said, tables_of, zone_of, zones_of}
use Rattle.sql_tables.proofs.ClientFacts.{of_apart, zone_found, zones_ascend}
use Rattle.sql_tables.proofs.ContentFacts.{all_published, content_in_order, spared}
use Rattle.sql_tables.proofs.ListFacts.{filter_other, filter_same, read_again}
use Rattle.sql_tables.proofs.RowFacts.{caller_again, change_again, received_again}
use Rattle.sql_tables.proofs.ValueFacts.{named_itself}
use Rattle.sql_tables.proofs.ZoneFacts.{heads_other, rows_other, same_zones, zones_asked, zones_dropped, zones_put}

-- ---- one row for a name

-- the row of a name, after one is put instead
own_row : (name : List ℕ) (row : Row) (rows : List Row) → is_of name row ≡ true → filter (is_of name) (replaced (is_of name) (row ∷ []) rows) ≡ row ∷ []
own_row name row rows is = filter_same (is_of name) (row ∷ []) rows ∙ ap (λ b. cond b (row ∷ []) []) is

other_row : (name other : List ℕ) (row : Row) (rows : List Row) → same_id name other ≡ false → is_of name row ≡ true
    → filter (is_of other) (replaced (is_of name) (row ∷ []) rows) ≡ filter (is_of other) rows
other_row name other row rows apart is =
    filter_other (is_of other) (is_of name) (row ∷ []) rows (of_apart other name (same_back other name ∙ apart))
    (ap (λ b. cond b (row ∷ []) []) (of_apart name other apart row is))

-- ---- the received list

received_own : (client : List ℕ) (e : Effect) (stored : Stored) → IsId client → IsFit e
    → received_of (client_changed client e stored).received client ≡ effect.received_after e (received_of stored.received client)
received_own client (publication changes) stored is fit = refl
received_own client (zone_put zone news) stored is fit = refl
received_own client (zone_dropped zone) stored is fit = refl
received_own client (received_put ids) stored is fit =
    ap received_said (own_row client (received_row client ids) stored.received (named_itself client is)) ∙ received_again client ids fit
received_own client (patterns_put zone patterns) stored is fit = refl

received_other : (client name : List ℕ) (e : Effect) (stored : Stored) → IsId client → same_id client name ≡ false
    → received_of (client_changed client e stored).received name ≡ received_of stored.received name
received_other client name (publication changes) stored is apart = refl
received_other client name (zone_put zone news) stored is apart = refl
received_other client name (zone_dropped zone) stored is apart = refl
received_other client name (received_put ids) stored is apart =
    ap received_said (other_row client name (received_row client ids) stored.received apart (named_itself client is))
received_other client name (patterns_put zone patterns) stored is apart = refl

-- ---- the last change

change_own : (name : List ℕ) (last : LastChange) (rows : List Row) → IsId name → change_of (with_last (Some name) last rows) name ≡ Some last
change_own name last rows is = ap change_said (own_row name (change_row name last) rows (named_itself name is)) ∙ change_again name last

change_other : (name other : List ℕ) (last : LastChange) (rows : List Row) → IsId name → same_id name other ≡ false
    → change_of (with_last (Some name) last rows) other ≡ change_of rows other
change_other name other last rows is apart =
    ap change_said (other_row name other (change_row name last) rows apart (named_itself name is))

publisher_id : IsId publisher_name
publisher_id = (refl, refl)

last_after : (caller other : Caller) (last : LastChange) (rows : List Row) → IsNamed caller
    → last_of (with_last (name_of caller) last rows) other ≡ (if is_caller caller other then last else last_of rows other)
last_after Publisher Publisher last rows is = ap (λ o. unwrap_or o no_change) (change_own publisher_name last rows publisher_id)
last_after Publisher (Client name) last rows is = by (is_publisher name) refl
  where
    by : (b : Bool) → is_publisher name ≡ b
        → unwrap_or (option_and_then (change_of (with_last (Some publisher_name) last rows)) (cond b None (Some name))) no_change ≡ unwrap_or (option_and_then (change_of rows) (cond b None (Some name))) no_change
    by true at = refl
    by false at = ap (λ o. unwrap_or o no_change) (change_other publisher_name name last rows publisher_id (same_back publisher_name name ∙ at))
last_after (Client client) Publisher last rows is =
    ap (λ b. last_of (with_last (cond b None (Some client)) last rows) Publisher) is.1
    ∙ ap (λ o. unwrap_or o no_change) (change_other client publisher_name last rows is.0 is.1)
last_after (Client client) (Client name) last rows is =
    ap (λ b. last_of (with_last (cond b None (Some client)) last rows) (Client name)) is.1 ∙ by (is_publisher name) refl (same_id client name) refl
  where
    by : (b : Bool) → is_publisher name ≡ b → (c : Bool) → same_id client name ≡ c
        → unwrap_or (option_and_then (change_of (with_last (Some client) last rows)) (cond b None (Some name))) no_change
        ≡ cond c last (unwrap_or (option_and_then (change_of rows) (cond b None (Some name))) no_change)
    by true at true there = let f : is_publisher name ≡ false = ap is_publisher (sym (one_id client name there)) ∙ is.1 in cc
    by true at false there = refl
    by false at true there =
        ap (λ o. unwrap_or o no_change) (ap (change_of (with_last (Some client) last rows)) (sym (one_id client name there)) ∙ change_own client last rows is.0)
    by false at false there = ap (λ o. unwrap_or o no_change) (change_other client name last rows is.0 there)

-- ---- all of it

private_content : (client : List ℕ) (e : Effect) (content : Content) → IsOwn (Client client) e → effect.content_after e content ≡ content
private_content client (publication changes) content own = absurd own
private_content client (zone_put zone rows) content own = refl
private_content client (zone_dropped zone) content own = refl
private_content client (received_put ids) content own = refl
private_content client (patterns_put zone patterns) content own = refl

-- all rows but those of the clients
abbrev not_of_clients : Stored → Stored
not_of_clients stored = record stored { heads = []; rows = []; received = [] }

others_stay : (client : List ℕ) (e : Effect) (stored : Stored) → not_of_clients (client_changed client e stored) ≡ not_of_clients stored
others_stay client (publication changes) stored = refl
others_stay client (zone_put zone rows) stored = refl
others_stay client (zone_dropped zone) stored = refl
others_stay client (received_put ids) stored = refl
others_stay client (patterns_put zone patterns) stored = refl

zones_own : (client : List ℕ) (e : Effect) (stored : Stored) → IsId client → CanBeMade (Client client) e (tables_of stored)
    → zones_of (changed (Client client) e stored) client ≡ zones_after e (zones_of stored client)
zones_own client (publication changes) stored is can = absurd can.own
zones_own client (zone_put zone rows) stored is can = zones_put stored client zone is can.fit.0 rows can.fit.1
zones_own client (zone_dropped zone) stored is can = zones_dropped stored client zone is can.fit
zones_own client (received_put ids) stored is can = refl
zones_own client (patterns_put zone patterns) stored is can =
    zones_asked stored client zone is can.fit.0 patterns can.fit.1 (by (list_any (is_of_both client zone) stored.heads) (ap is_some (sym (zone_found stored client zone)) ∙ can.asked))
  where
    by : (b : Bool) → is_some (cond b (Some (zone_of stored client zone)) None) ≡ true → b ≡ true
    by true h = refl
    by false h = cc

zones_other : (client name : List ℕ) (e : Effect) (stored : Stored) → IsId client → IsFit e → same_id client name ≡ false
    → zones_of (changed (Client client) e stored) name ≡ zones_of stored name
zones_other client name e stored is fit apart =
    same_zones stored (changed (Client client) e stored) name
    (λ zone. heads_other client name zone e is fit apart stored)
    (λ zone. rows_other client name zone e is fit apart stored)

-- a change of a client
pub client_made : (client : List ℕ) (e : Effect) (last : LastChange) (stored : Stored) → CanBeMade (Client client) e (tables_of stored)
    → tables_of (stored_after (Client client) e last stored) ≡ effect.tables_after (Client client) e last (tables_of stored)
client_made client e last stored can =
    same_tables (tables_of (stored_after (Client client) e last stored)) (effect.tables_after (Client client) e last (tables_of stored))
    (ap (λ (s : Stored). filter_map caller_found s.callers) stay)
    (ap content_of stay ∙ sym (private_content client e (tables_of stored).content can.own))
    (λ other. ap (λ (s : Stored). last_of (with_last (name_of (Client client)) last s.changes) other) stay ∙ last_after (Client client) other last stored.changes can.named)
    zones received
  where
    stay : not_of_clients (client_changed client e stored) ≡ not_of_clients stored
    stay = others_stay client e stored

    zones : (name : List ℕ) → zones_of (changed (Client client) e stored) name ≡ (if same_id client name then zones_after e (zones_of stored name) else zones_of stored name)
    zones name = by (same_id client name) refl
      where
        by : (b : Bool) → same_id client name ≡ b → zones_of (changed (Client client) e stored) name ≡ cond b (zones_after e (zones_of stored name)) (zones_of stored name)
        by true at =
            let same = one_id client name at in
            ap (zones_of (changed (Client client) e stored)) (sym same) ∙ zones_own client e stored can.named.0 can ∙ ap (λ n. zones_after e (zones_of stored n)) same
        by false at = zones_other client name e stored can.named.0 can.fit at

    received : (name : List ℕ) → received_of (client_changed client e stored).received name ≡ (if same_id client name then effect.received_after e (received_of stored.received name) else received_of stored.received name)
    received name = by (same_id client name) refl
      where
        by : (b : Bool) → same_id client name ≡ b
            → received_of (client_changed client e stored).received name ≡ cond b (effect.received_after e (received_of stored.received name)) (received_of stored.received name)
        by true at =
            let same = one_id client name at in
            ap (received_of (client_changed client e stored).received) (sym same) ∙ received_own client e stored can.named.0 can.fit
            ∙ ap (λ n. effect.received_after e (received_of stored.received n)) same
        by false at = received_other client name e stored can.named.0 at

-- a change of the publisher
publisher_made : (changes : List Change) (last : LastChange) (stored : Stored) → IsFit (publication changes)
    → tables_of (stored_after Publisher (publication changes) last stored) ≡ effect.tables_after Publisher (publication changes) last (tables_of stored)
publisher_made changes last stored fit =
    same_tables (tables_of (stored_after Publisher (publication changes) last stored)) (effect.tables_after Publisher (publication changes) last (tables_of stored))
    (ap (λ (s : Stored). filter_map caller_found s.callers) rest)
    (all_published changes stored fit)
    (λ other. ap (λ (s : Stored). last_of (with_last (Some publisher_name) last s.changes) other) rest ∙ last_after Publisher other last stored.changes tt)
    (λ name. same_zones stored (fold published stored changes) name
    (λ zone. ap (λ (s : Stored). filter (is_of_both name zone) s.heads) rest)
    (λ zone. ap (λ (s : Stored). filter (is_of_both name zone) s.rows) rest))
    (λ name. ap (λ (s : Stored). received_of s.received name) rest)
  where
    -- all rows but those of what is published
    beside : Stored → Stored
    beside s = record s { sysmods = []; sups = []; conds = []; holds = [] }

    same : (s : Stored) (change : Change) → beside (published s change) ≡ beside s
    same s (Whole x) = refl
    same s (OfHold change) = refl

    rest : beside (fold published stored changes) ≡ beside stored
    rest = spared beside same changes stored

-- each change
pub change_made : (caller : Caller) (e : Effect) (last : LastChange) (stored : Stored) → CanBeMade caller e (tables_of stored)
    → tables_of (stored_after caller e last stored) ≡ effect.tables_after caller e last (tables_of stored)
change_made Publisher (publication changes) last stored can = publisher_made changes last stored can.fit
change_made Publisher (zone_put zone rows) last stored can = absurd can.own
change_made Publisher (zone_dropped zone) last stored can = absurd can.own
change_made Publisher (received_put ids) last stored can = absurd can.own
change_made Publisher (patterns_put zone patterns) last stored can = absurd can.own
change_made (Client client) e last stored can = client_made client e last stored can

-- ---- before the first change

pub callers_again : (rows : List CallerRow) → AllByRecursion (λ (row : CallerRow). IsId row.name) rows → filter_map caller_found (map caller_row rows) ≡ rows
callers_again rows all = read_again (λ (row : CallerRow). IsId row.name) caller_row caller_found caller_again rows all

pub opened_tables : (rows : List CallerRow) → AllByRecursion (λ (row : CallerRow). IsId row.name) rows → tables_of (opened (map caller_row rows)) ≡ tables.opened rows
opened_tables rows h = same_tables (tables_of (opened (map caller_row rows))) (tables.opened rows) (callers_again rows h) refl last (λ name. refl) (λ name. refl)
  where
    last : (caller : Caller) → last_of [] caller ≡ no_change
    last Publisher = refl
    last (Client name) = by (is_publisher name)
      where
        by : (b : Bool) → unwrap_or (option_and_then (change_of []) (cond b None (Some name))) no_change ≡ no_change
        by true = refl
        by false = refl

-- ---- the order of what the rows say

pub tables_in_order : (stored : Stored) → AreInOrder (tables_of stored)
tables_in_order stored = record { content = content_in_order stored; zones = λ client. zones_ascend stored client }
