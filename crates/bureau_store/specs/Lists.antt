-- The lists that a store keeps. Contracts speak of its tables, which are `tables_of`.
use Rattle.std.specs.Prelude.{◌≡◌, ℕ, List, [], Result, IfErr, unwrap_or, refl}
use Rattle.std.proofs.Common.{◌∙◌, arith, ap, subst, sym}
use Rattle.std.specs.Map.{lookup}
use Rattle.std.specs.Str.{bytes_eq}
use Rattle.catalogue.specs.Content.{Content, IsInOrder}
use Rattle.catalogue.specs.View.{IsLawful, IsOpen, View, part_lawful, part_of}
use Rattle.bureau_store.specs.Effect.{Effect, received_after, zones_after}
use Rattle.bureau_store.specs.Store.{AreOfOneStore, Update}
use Rattle.bureau_store.specs.Tables.{AreInOrder, LastChange, Tables, Zones, no_change}
use Rattle.bureau_store.specs.declared.caller.Caller.{Caller}
use Rattle.bureau_store.specs.declared.caller.Caller.TheVariants.{Publisher, Client}
use Rattle.bureau_store.specs.declared.caller.CallerRow.{CallerRow}
use Rattle.bureau_store.specs.declared.fault.StoreFault.{StoreFault}
use Rattle.bureau_store.specs.declared.fault.StoreFault.TheVariants.{Memory}

-- the tables of a client
pub record ClientTable : Type 0 where
  pub last : LastChange
  pub zones : Zones
  pub received : List (List ℕ)

-- those of a client that has sent nothing
abbrev pub nothing_sent : ClientTable
nothing_sent = record { last = no_change; zones = []; received = [] }

pub record Lists : Type 0 where
  pub callers : List CallerRow
  pub content : Content
  pub publisher : LastChange
  pub clients : List (List ℕ × ClientTable)

-- the tables of the client of this name, among these
abbrev pub client_in : List (List ℕ × ClientTable) → List ℕ → ClientTable
client_in clients name = unwrap_or (lookup (bytes_eq name) clients) nothing_sent

abbrev pub last_in : Lists → Caller → LastChange
last_in lists Publisher = lists.publisher
last_in lists (Client name) = (client_in lists.clients name).last

-- the tables that lists hold
abbrev pub tables_of : Lists → Tables
tables_of lists = record {
  callers = lists.callers;
  content = lists.content;
  last = last_in lists;
  zones = λ name. (client_in lists.clients name).zones;
  received = λ name. (client_in lists.clients name).received;
}

-- a client's tables after one of its changes
abbrev pub client_after : Effect → LastChange → ClientTable → ClientTable
client_after effect last client = record {
  last = last;
  zones = zones_after effect client.zones;
  received = received_after effect client.received;
}

-- ---- how a store in lists is looked at: clean and open always, failing and outgrown never, and in order, as each of them is

pub record IsOurs (lists : Lists) : Type 0 where
  pub in_order : AreInOrder (tables_of lists)

-- A read of lists leaves them as they are, and in order. It is refused only for want of memory.
pub record ReadsLists {Answer Fault : Type 0} (Memory : Fault) (old new : Lists) (answer : Result Answer Fault) : Type 0 where
  pub same : new ≡ old
  pub ours : IsOurs old
  pub memory : IfErr answer (λ fault. fault ≡ Memory)

abbrev pub lists_view : View Lists Tables
lists_view = record {
  stands = λ lists this. this ≡ tables_of lists;
  is_clean = λ lists. Unit {0};
  is_ours = IsOurs;
  failures = λ lists. 0;
  may_leave = λ lists left. left ≡ tables_of lists;
  keeps = λ old new. new ≡ old;
}

abbrev pub NeverOutgrown : Update → Lists → Lists → Type 0
NeverOutgrown update old new = ⊥

-- a change is refused only for want of memory
abbrev pub RefusesForMemory : Update → Lists → Lists → StoreFault → Type 0
RefusesForMemory update old new fault = fault ≡ Memory

pub lists_lawful : IsLawful lists_view
lists_lawful = record {
  keeps = λ old new same. record {
    goes = record { clean = λ h. h; ours = λ h _. rw same h; failures_rise = omega arith };
    stays = λ ours clean this stands. stands ∙ sym (ap tables_of same);
    leaves = λ ours clean this left. left ∙ ap tables_of same;
  };
  itself = λ lists. refl;
  on = λ first second third a b. b ∙ a;
  one = λ lists is_open this other first second. first ∙ sym second;
}

pub lists_hold_tables : (lists : Lists) → IsOurs lists → IsOpen lists_view lists → (this : Tables) × (this ≡ tables_of lists)
lists_hold_tables lists ours is_open = (tables_of lists, refl)

pub lists_in_order : (lists : Lists) (this : Tables) → IsOurs lists → IsOpen lists_view lists → this ≡ tables_of lists → AreInOrder this
lists_in_order lists this ours is_open is = subst AreInOrder (sym is) ours.in_order

-- ---- and with what is published alone

abbrev pub lists_content_view : View Lists Content
lists_content_view = part_of (λ tables. tables.content) lists_view

pub lists_content_lawful : IsLawful lists_content_view
lists_content_lawful = part_lawful (λ tables. tables.content) lists_view lists_lawful

pub lists_show_content : AreOfOneStore lists_content_view lists_view
lists_show_content = record {
  keeps = λ old new same. same;
  clean = λ lists clean. clean;
  ours = λ lists ours. ours;
  failures = λ lists. refl;
  stands = λ lists this stands. (this, stands, refl);
}

pub lists_content_in_order : (lists : Lists) (this : Content) → IsOurs lists → IsOpen lists_content_view lists → lists_content_view.stands lists this → IsInOrder this
lists_content_in_order lists this ours is_open stands = subst IsInOrder (sym (ap (λ tables. tables.content) stands.1) ∙ stands.2) ours.in_order.content
