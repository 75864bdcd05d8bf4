-- Connections side by side: whatever happens to them, in whatever order.
use Rattle.std.specs.Prelude.{◌≡◌, ℕ, List, [], ◌∷◌, ◌++◌}
use Rattle.std.specs.List.{AllByRecursion}
use Rattle.catalogue.specs.View.{Goes, Tells, View}
use Rattle.bureau_store.specs.Tables.{AreInOrder, Tables}
use Rattle.bureau_store.specs.declared.caller.CallerRow.{CallerRow}
use Rattle.bureau.specs.Joint.{CallBy}
use Rattle.bureau.specs.Kept.{IsKeptRun}
use Rattle.bureau_http.specs.Exchange.{calls_of}
use Rattle.bureau_http.specs.Isolated.{AreIsolated}
use Rattle.bureau_http.specs.Served.{IsOneRun}
use Rattle.connections.specs.Items.{Event, Item, Slots, Steps, events_of, exchanges_of, slot_in, slot_of}
use Rattle.connections.specs.Memory.{StaysWithin}
use Rattle.connections.specs.Own.{EachIsServed}
use Rattle.connections.specs.Turns.{AreSettled}
use Rattle.connections.specs.declared.slots.Connections.{Connections}

-- One event after the other came, and what was done at each was done to its connection. Before the first, and after what was
-- done at each, no whole request is left waiting, except behind a reply that has still to go out.
abbrev pub NoneWaits : List CallerRow → Slots → List Event → List Item → Slots → Type 0
NoneWaits rows old [] items new = (items ≡ []) × (new ≡ old) × AreSettled new
NoneWaits rows old (event ∷ events) items new =
    (first : List Item) × (rest : List Item) × (mid : Slots) × AreSettled old × (items ≡ first ++ rest) × (events_of first ≡ event ∷ [])
    × AllByRecursion (λ item. slot_in item ≡ slot_of event) first × Steps rows old first mid × NoneWaits rows mid events rest new

-- These events came, and no others. The requests of all connections, in the order in which they were answered, are one run
-- of the bureau. In it a change acts once, over whichever connections it is sent, and each caller is answered, to the byte,
-- as if alone. Each connection was answered its own requests, in their order, and was sent their replies. If no whole
-- request was left waiting before, none is at any event, except behind a reply that has still to go out.
pub record AreServedSideBySide (Runs : Tables → List CallBy → Tables → Type 0) (this : Tables) (events : List Event) (before after : Slots) : Type 0 where
  pub items : List Item
  pub told : events_of items ≡ events
  pub steps : Steps this.callers before items after
  pub ran : IsOneRun Runs this (calls_of (exchanges_of items))
  pub isolated : AreInOrder this → AreIsolated this (exchanges_of items)
  pub own : EachIsServed this.callers items
  pub waits : AreSettled before → NoneWaits this.callers before events items after

-- ---- private: what was done so far
pub record AreSoFar (Runs : Tables → List CallBy → Tables → Type 0) (this : Tables) (events : List Event) (before after : Slots) : Type 0 where
  pub items : List Item
  pub told : events_of items ≡ events
  pub steps : Steps this.callers before items after
  pub now : Tables
  pub run : Runs this (calls_of (exchanges_of items)) now
  pub callers : now.callers ≡ this.callers

-- the same, at one event, and to its connection
pub record AreDone (Runs : Tables → List CallBy → Tables → Type 0) (this : Tables) (slot : ℕ) (events : List Event) (before after : Slots) : Type 0 where
  pub so_far : AreSoFar Runs this events before after
  pub own : AllByRecursion (λ item. slot_in item ≡ slot) so_far.items

-- the same, if no whole request is left waiting at any event
pub record AreInTurn (Runs : Tables → List CallBy → Tables → Type 0) (this : Tables) (events : List Event) (before after : Slots) : Type 0 where
  pub so_far : AreSoFar Runs this events before after
  pub waits : AreSettled before → NoneWaits this.callers before events so_far.items after

-- These events came, the desk goes on, and what is held stays within the limit. If no whole request was left waiting before,
-- none is at any event.
pub record IsOnward {Desk : Type 0} (view : View Desk Tables) (old new : Desk) (events : List Event) (before after : Connections) : Type 0 where
  pub goes : Goes view old new
  pub in_turn : Tells view old new (λ this. AreInTurn (IsKeptRun view old new) this events before.slots.items after.slots.items)
  pub within : StaysWithin before after
