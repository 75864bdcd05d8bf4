-- The tables as one caller sees them.
use Rattle.std.specs.Prelude.{ℕ, List, []}
use Rattle.catalogue.specs.Content.{Content}
use Rattle.bureau_store.specs.Tables.{LastChange, Tables, Zones}
use Rattle.bureau_store.specs.declared.caller.Caller.{Caller}
use Rattle.bureau_store.specs.declared.caller.Caller.TheVariants.{Publisher, Client}

-- the published content, the caller's last change, and a client's zones and received list
pub record View : Type 0 where
  pub caller : Caller
  pub content : Content
  pub last : LastChange
  pub zones : Zones
  pub received : List (List ℕ)

abbrev pub view_of : Caller → Tables → View
view_of Publisher tables = record { caller = Publisher; content = tables.content; last = tables.last Publisher; zones = []; received = [] }
view_of (Client name) tables = record {
  caller = Client name;
  content = tables.content;
  last = tables.last (Client name);
  zones = tables.zones name;
  received = tables.received name;
}
