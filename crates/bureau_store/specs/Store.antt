-- The laws of every store.
use Rattle.std.specs.Prelude.{◌≡◌, ◌⊎◌, ◌+◌, ℕ, List, [], Result, IfErr, IsErrOf, OnErr, OnOk, is_some, true}
use Rattle.catalogue.specs.Content.{Content}
use Rattle.catalogue.specs.View.{Asks, Goes, HasFailed, IsOpen, View}
use Rattle.bureau_store.specs.Caller.{IsAmong}
use Rattle.bureau_store.specs.Effect.{Effect, publication, zone_put, zone_dropped, received_put, patterns_put, tables_after}
use Rattle.bureau_store.specs.Tables.{LastChange, Tables, Zones, zone_named}
use Rattle.bureau_store.specs.declared.caller.Caller.{Caller}
use Rattle.bureau_store.specs.declared.caller.Caller.TheVariants.{Publisher, Client}
use Rattle.bureau_store.specs.declared.fault.StoreFault.{StoreFault}
use Rattle.bureau_store.specs.declared.fault.StoreFault.TheVariants.{Memory, Device, Size, Shape, Version}

-- the greatest number that a change may have
abbrev pub greatest_number : ℕ
greatest_number = 9223372036854775807

-- ---- what is asked of a store

-- A change by a caller: its effect, and its number with the reply that is kept.
pub record Update : Type 0 where
  pub caller : Caller
  pub effect : Effect
  pub last : LastChange

abbrev pub update : Caller → Effect → ℕ → List ℕ → Update
update caller effect number reply = record { caller = caller; effect = effect; last = record { number = number; reply = reply } }

-- the tables after it
abbrev pub updated : Update → Tables → Tables
updated update = tables_after update.caller update.effect update.last

-- the zones of a caller; the publisher has none
abbrev pub zones_of : Caller → Tables → Zones
zones_of Publisher this = []
zones_of (Client name) this = this.zones name

-- the zone that is dropped, or gets patterns, is there
abbrev pub HasZone : Effect → Zones → Type 0
HasZone (publication changes) zones = Unit {0}
HasZone (zone_put zone rows) zones = Unit {0}
HasZone (zone_dropped zone) zones = is_some (zone_named zone zones) ≡ true
HasZone (received_put ids) zones = Unit {0}
HasZone (patterns_put zone patterns) zones = is_some (zone_named zone zones) ≡ true

-- A change is due over these tables: one of the callers makes it, with its next number, and the zone is there.
pub record IsDue (update : Update) (this : Tables) : Type 0 where
  pub among : IsAmong this.callers update.caller
  pub next : update.last.number ≡ (this.last update.caller).number + 1
  pub zone : HasZone update.effect (zones_of update.caller this)

-- ---- how a store is looked at

-- The published content is part of the tables: a read of it keeps the tables, and tells what they have.
pub record AreOfOneStore {Store : Type 0} (content : View Store Content) (tables : View Store Tables) : Type 0 where
  pub keeps : (old new : Store) → content.keeps old new → tables.keeps old new
  pub clean : (store : Store) → tables.is_clean store → content.is_clean store
  pub ours : (store : Store) → tables.is_ours store → content.is_ours store
  pub failures : (store : Store) → content.failures store ≡ tables.failures store
  pub stands : (store : Store) (this : Tables) → tables.stands store this → content.stands store this.content

-- ---- what a store answers

-- A read is refused for want of memory or for the device. Only a change asks whether the device has room for more. Only the
-- opening asks whether a file is a store, and of which version.
abbrev pub IsOfRead : StoreFault → Type 0
IsOfRead Memory = Unit {0}
IsOfRead Device = Unit {0}
IsOfRead Size = ⊥
IsOfRead Shape = ⊥
IsOfRead Version = ⊥

abbrev pub IsOfCall : StoreFault → Type 0
IsOfCall Memory = Unit {0}
IsOfCall Device = Unit {0}
IsOfCall Size = Unit {0}
IsOfCall Shape = ⊥
IsOfCall Version = ⊥

module _ {Store : Type 0} (view : View Store Tables) where
  -- The laws of a read of the tables.
  pub record Reads {Answer : Type 0} (old new : Store) (answer : Result Answer StoreFault) : Type 0 where
    pub asks : Asks view Device old new answer
    pub refusal : IfErr answer IsOfRead

  -- a store that is open and clean is settled: a stop leaves just the tables that it holds
  abbrev pub IsSettled : Store → Type 0
  IsSettled store = view.is_ours store → view.is_clean store → IsOpen view store → (this : Tables) → view.stands store this → (left : Tables) → view.may_leave store left → left ≡ this

  -- The laws of a change: done, the tables are changed as they should be; refused, they are as they were. A closed store
  -- answers nothing but a fault of the device, so an open store did what is told as done.
  pub record Makes {Done : Type 0} (HasOutgrown : Update → Store → Store → Type 0) (update : Update) (old new : Store) (answer : Result Done StoreFault) : Type 0 where
    pub goes : Goes view old new
    pub done : OnOk answer (view.is_ours old → view.is_clean new → (this : Tables) → IsDue update this → view.stands old this → view.stands new (updated update this))
    pub refused : OnErr answer (view.is_ours old → view.is_clean new → (this : Tables) → view.stands old this → view.stands new this)
    -- why it is refused: for the device only if it failed, and for want of room only if the change has outgrown it
    pub refusal : IfErr answer IsOfCall
    pub cause : IsErrOf answer Device → HasFailed view old new
    pub is_open : (IsErrOf answer Device → ⊥) → IsOpen view new
    pub size : IsErrOf answer Size → HasOutgrown update old new
    -- what a stop may leave: what it might have left before, or the tables with this change if the store was open
    pub crash : view.is_ours old → view.is_clean new → (this : Tables) → IsDue update this → view.stands old this →
        (left : Tables) → view.may_leave new left → view.may_leave old left ⊎ (IsOpen view old × (left ≡ updated update this))
    pub settled : IsSettled new
