-- The effect of an accepted change on the tables.
use Rattle.std.specs.Prelude.{ℕ, List, if◌then◌else◌}
use Rattle.std.specs.BTreeMap.{insert_entry}
use Rattle.std.specs.Map.{remove_entry}
use Rattle.std.specs.Str.{bytes_eq}
use Rattle.zone_lists.specs.declared.zones.ZoneRow.{ZoneRow}
use Rattle.bureau_store.specs.Caller.{is_caller}
use Rattle.catalogue.specs.Content.{Content}
use Rattle.catalogue.specs.Publication.{after}
use Rattle.catalogue.specs.declared.change.Change.{Change}
use Rattle.bureau_store.specs.Tables.{LastChange, Tables, Zones, name_order, patterns_of, rows_of, zone_named}
use Rattle.bureau_store.specs.declared.caller.Caller.{Caller}
use Rattle.bureau_store.specs.declared.caller.Caller.TheVariants.{Publisher, Client}

-- Statements are published; or, of a client: a zone gets these rows, a zone is dropped, the received list
-- becomes this one, or a zone gets these patterns.
pub data Effect : Type 0 where
  publication : List Change → Effect
  zone_put : List ℕ → List ZoneRow → Effect
  zone_dropped : List ℕ → Effect
  received_put : List (List ℕ) → Effect
  patterns_put : List ℕ → List (List ℕ) → Effect

abbrev pub content_after : Effect → Content → Content
content_after (publication changes) content = after content changes
content_after (zone_put zone rows) content = content
content_after (zone_dropped zone) content = content
content_after (received_put ids) content = content
content_after (patterns_put zone patterns) content = content

-- A put replaces a zone's rows and keeps its patterns; a drop takes both.
abbrev pub zones_after : Effect → Zones → Zones
zones_after (publication changes) zones = zones
zones_after (zone_put name rows) zones =
    insert_entry name_order zones name (record { rows = rows; patterns = patterns_of (zone_named name zones) })
zones_after (zone_dropped name) zones = remove_entry (bytes_eq name) zones
zones_after (received_put ids) zones = zones
zones_after (patterns_put name patterns) zones =
    insert_entry name_order zones name (record { rows = rows_of (zone_named name zones); patterns = patterns })

abbrev pub received_after : Effect → List (List ℕ) → List (List ℕ)
received_after (publication changes) ids = ids
received_after (zone_put zone rows) ids = ids
received_after (zone_dropped zone) ids = ids
received_after (received_put new) ids = new
received_after (patterns_put zone patterns) ids = ids

-- the entry under one name changes, and no other
abbrev pub at_client : {A : Type 0} → Caller → (A → A) → (List ℕ → A) → List ℕ → A
at_client Publisher change old name = old name
at_client (Client client) change old name = if bytes_eq client name then change (old name) else old name

-- The tables after a caller's change: its number and the reply are the caller's last, and of the rest only what
-- the effect names changes.
abbrev pub tables_after : Caller → Effect → LastChange → Tables → Tables
tables_after caller effect last old = record {
  callers = old.callers;
  content = content_after effect old.content;
  last = λ other. if is_caller caller other then last else old.last other;
  zones = at_client caller (zones_after effect) old.zones;
  received = at_client caller (received_after effect) old.received;
}
