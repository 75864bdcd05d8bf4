-- One item after another, beside the desk.
use Rattle.std.proofs.Common.{◌≡◌, ℕ, ◌+◌, ◌<◌, List, [], ◌∷◌, ◌++◌, length, map, take, drop, get_or, take-append-drop, true, false, Some, None, slice_get, slice_set, refl, sym, ap, ◌∙◌, subst, arith, append-nil, append_assoc}
use Rattle.std.proofs.lemmas.Grind.{flat_map-append}
use Rattle.std.proofs.lemmas.List.{drop_more, map-append, take_more}
use Rattle.std.specs.List.{AllByRecursion}
use Rattle.catalogue.specs.View.{Goes, Tells, View}
use Rattle.catalogue.proofs.SourceFacts.{goes_on, told_both, told_so}
use Rattle.bureau_store.specs.Tables.{Tables}
use Rattle.bureau_store.specs.declared.caller.CallerRow.{CallerRow}
use Rattle.bureau.specs.Joint.{CallBy, IsRun}
use Rattle.bureau.specs.Kept.{IsKeptRun}
use Rattle.bureau.specs.Runs.{IsLawfulRun}
use Rattle.bureau.proofs.KeptFacts.{idle, kept_on, stands_after}
use Rattle.bureau.proofs.RunFacts.{lawful_run}
use Rattle.bureau_http.specs.Exchange.{Exchange, call_in, calls_of}
use Rattle.bureau_http.specs.Served.{HasExchanged}
use Rattle.bureau_http.proofs.IsolatedFacts.{Alike, Alone, isolated}
use Rattle.bureau_http.proofs.NextFacts.{kept_once, kept_plain}
use Rattle.bureau_http.proofs.ServingFacts.{ActOnce, one_run, same_run}
use Rattle.connections.specs.Items.{Answers, Event, IsDone, IsStarved, Item, Leaves, Loses, Slots, Step, Steps, came, bytes, wrote, ended, failed, late, event_in, events_of, exchange_in, exchanges_of, happens, went, stray, missed, answered, lost, starved, finished, slot_in, slot_of}
use Rattle.connections.specs.Memory.{StaysWithin}
use Rattle.connections.specs.SideBySide.{AreDone, AreInTurn, AreServedSideBySide, AreSoFar, IsOnward, NoneWaits}
use Rattle.connections.specs.Turns.{AreSettled, AreSettledBut, IsToldOf, Misses, Occurs, Turns, stays}
use Rattle.connections.specs.declared.connection.Connection.{Connection}
use Rattle.connections.specs.declared.slots.Connections.{Connections}
use Rattle.connections.specs.declared.connection.Turn.{Turn}
use Rattle.connections.specs.declared.connection.Turn.TheVariants.{Waits, Answered, Lost, Starved, Finished}
use Rattle.connections.specs.declared.event.Told.{Told}
use Rattle.connections.specs.declared.event.Told.TheVariants.{Done, Missed, Stray}
use Rattle.connections.proofs.OwnFacts.{each_served}
use Rattle.connections.proofs.SlotFacts.{back_by, moves_by}
use Rattle.connections.proofs.ReadingFacts.{Later}
use Rattle.connections.proofs.MemoryFacts.{stays_on, stays_same}
use Rattle.connections.proofs.SettledFacts.{event_settled, missed_settled, put_in_settled, stays_settled, taken_settled}

pub steps_on : (rows : List CallerRow) (xs ys : List Item) (t u v : Slots) → Steps rows t xs u → Steps rows u ys v → Steps rows t (xs ++ ys) v
steps_on rows [] ys t u v h k = subst (λ (l : Slots). Steps rows l ys v) h k
steps_on rows (x ∷ xs) ys t u v h k = (h.0, h.1, steps_on rows xs ys h.0 u v h.2 k)

pub calls_on : (xs ys : List Item) → calls_of (exchanges_of (xs ++ ys)) ≡ calls_of (exchanges_of xs) ++ calls_of (exchanges_of ys)
calls_on xs ys = ap calls_of (flat_map-append exchange_in xs ys) ∙ flat_map-append call_in (exchanges_of xs) (exchanges_of ys)

-- ---- one item

-- nothing was asked
pub none_so_far : (Runs : Tables → List CallBy → Tables → Type 0) (this : Tables) (slot : ℕ) (t u : Slots) → Runs this [] this → u ≡ t → AreDone Runs this slot [] t u
none_so_far Runs this slot t u run same =
    record { so_far = record { items = []; told = refl; steps = same; now = this; run = run; callers = refl }; own = tt }

-- an item that asks nothing
pub quiet : (Runs : Tables → List CallBy → Tables → Type 0) (this : Tables) (item : Item) (slot : ℕ) (t u : Slots) → slot_in item ≡ slot → exchange_in item ≡ []
    → Runs this [] this → Step this.callers t item u → AreDone Runs this slot (event_in item) t u
quiet Runs this item slot t u own none run step = record {
  so_far = record {
    items = item ∷ [];
    told = append-nil (event_in item);
    steps = (u, step, refl);
    now = this;
    run = subst (λ es. Runs this (calls_of es) this) (sym (append-nil (exchange_in item) ∙ none)) run;
    callers = refl;
  };
  own = (own, tt);
}

-- an item that asks one thing
asks : (Runs : Tables → List CallBy → Tables → Type 0) (this : Tables) (item : Item) (exchange : Exchange) (slot : ℕ) (t u : Slots) → slot_in item ≡ slot
    → exchange_in item ≡ exchange ∷ [] → event_in item ≡ [] → HasExchanged Runs this exchange → Step this.callers t item u → AreDone Runs this slot [] t u
asks Runs this item exchange slot t u own one none has step = record {
  so_far = record {
    items = item ∷ [];
    told = append-nil (event_in item) ∙ none;
    steps = (u, step, refl);
    now = has.next;
    run = subst (λ es. Runs this (calls_of es) has.next) (sym (append-nil (exchange_in item) ∙ one))
        (subst (λ cs. Runs this cs has.next) (sym (append-nil (call_in exchange))) has.run);
    callers = has.callers;
  };
  own = (own, tt);
}

-- ---- an event

event_quiet : (Runs : Tables → List CallBy → Tables → Type 0) (this : Tables) (event : Event) (t u : Slots) → Runs this [] this → Misses t event u
    → AreDone Runs this (slot_of event) (event ∷ []) t u
event_quiet Runs this (came slot) t u run h = absurd h
event_quiet Runs this (bytes slot text) t u run h = quiet Runs this (missed slot text) slot t u refl refl run h
event_quiet Runs this (wrote slot count) t u run h = absurd h
event_quiet Runs this (ended slot) t u run h = absurd h
event_quiet Runs this (failed slot) t u run h = absurd h
event_quiet Runs this (late slot) t u run h = absurd h

event_occurs : (Runs : Tables → List CallBy → Tables → Type 0) (this : Tables) (event : Event) (t u : Slots) → Runs this [] this → Occurs t event u
    → AreDone Runs this (slot_of event) (event ∷ []) t u
event_occurs Runs this (came slot) t u run h = quiet Runs this (happens (came slot)) slot t u refl refl run h
event_occurs Runs this (bytes slot text) t u run h = quiet Runs this (happens (bytes slot text)) slot t u refl refl run h
event_occurs Runs this (wrote slot count) t u run h =
    subst (λ n. AreDone Runs this slot (wrote slot n ∷ []) t u) h.1 (quiet Runs this (went slot h.0) slot t u refl refl run h.2)
event_occurs Runs this (ended slot) t u run h = quiet Runs this (happens (ended slot)) slot t u refl refl run h
event_occurs Runs this (failed slot) t u run h = quiet Runs this (happens (failed slot)) slot t u refl refl run h
event_occurs Runs this (late slot) t u run h = quiet Runs this (happens (late slot)) slot t u refl refl run h

pub event_so_far : (Runs : Tables → List CallBy → Tables → Type 0) (this : Tables) (told : Told) (event : Event) (t u : Slots) → Runs this [] this
    → IsToldOf told t event u → AreDone Runs this (slot_of event) (event ∷ []) t u
event_so_far Runs this Done event t u run h = event_occurs Runs this event t u run h
event_so_far Runs this Missed event t u run h = event_quiet Runs this event t u run h
event_so_far Runs this Stray event t u run h = quiet Runs this (stray event) (slot_of event) t u refl refl run h

-- ---- a turn of the connection in a slot

module _ (Runs : Tables → List CallBy → Tables → Type 0) (this : Tables) (slot : ℕ) (a b : Connection) (t u : Slots)
    (at : slice_get t slot ≡ Some (Some a)) (out : u ≡ slice_set t slot None) where
  left_by : (Why : Connection → Type 0) → Why a → Leaves t slot u Why
  left_by Why why = record { before = a; at = at; why = why; new_is = out }

  -- it stays in its slot
  pub waits_on : (v : Slots) → v ≡ slice_set u slot (Some b) → Turns Runs this Waits a b → AreDone Runs this slot [] t v
  waits_on v into turn = none_so_far Runs this slot t v turn.0
      (back_by t u v slot a at out (into ∙ ap (λ c. slice_set u slot (Some c)) turn.1))

  pub answered_on : (v : Slots) → v ≡ slice_set u slot (Some b) → Turns Runs this Answered a b → AreDone Runs this slot [] t v
  answered_on v into turn = asks Runs this (answered slot turn.0) turn.0 slot t v refl refl refl turn.1
      (moves_by t u v slot a b (Answers this.callers turn.0) at out into turn.2)

  -- it leaves
  pub lost_on : Turns Runs this Lost a b → AreDone Runs this slot [] t u
  lost_on turn = asks Runs this (lost slot turn.0) turn.0 slot t u refl refl refl turn.1 (left_by (Loses this.callers turn.0) turn.2)

  pub starved_on : Turns Runs this Starved a b → AreDone Runs this slot [] t u
  starved_on turn = quiet Runs this (starved slot) slot t u refl refl turn.0 (left_by IsStarved turn.1)

  pub finished_on : Turns Runs this Finished a b → AreDone Runs this slot [] t u
  finished_on turn = quiet Runs this (finished slot) slot t u refl refl turn.0 (left_by IsDone turn.1)

module _ {Desk : Type 0} (view : View Desk Tables) (old new : Desk) (slot : ℕ) (a b : Connection) (t u : Slots) (turn : Turn)
    (at : slice_get t slot ≡ Some (Some a)) (out : u ≡ slice_set t slot None)
    (told : Tells view old new (λ this. Turns (IsKeptRun view old new) this turn a b)) where
  abbrev Runs : Tables → List CallBy → Tables → Type 0
  Runs = IsKeptRun view old new

  stays_by : (this : Tables) (v : Slots) (is : Turn) → stays is ≡ true → v ≡ slice_set u slot (Some b) → Turns Runs this is a b → AreDone Runs this slot [] t v
  stays_by this v Waits e into h = waits_on Runs this slot a b t u at out v into h
  stays_by this v Answered e into h = answered_on Runs this slot a b t u at out v into h
  stays_by this v Lost e into h = absurd (cc)
  stays_by this v Starved e into h = absurd (cc)
  stays_by this v Finished e into h = absurd (cc)

  leaves_by : (this : Tables) (is : Turn) → stays is ≡ false → Turns Runs this is a b → AreDone Runs this slot [] t u
  leaves_by this Waits e h = absurd (cc)
  leaves_by this Answered e h = absurd (cc)
  leaves_by this Lost e h = lost_on Runs this slot a b t u at out h
  leaves_by this Starved e h = starved_on Runs this slot a b t u at out h
  leaves_by this Finished e h = finished_on Runs this slot a b t u at out h

  -- it stays in its slot
  pub stays_so_far : (v : Slots) → stays turn ≡ true → v ≡ slice_set u slot (Some b) → Tells view old new (λ this. AreDone Runs this slot [] t v)
  stays_so_far v e into = told_so told (λ this h. stays_by this v turn e into h)

  pub stays_all_settled : (v : Slots) → stays turn ≡ true → v ≡ slice_set u slot (Some b)
      → Tells view old new (λ this. AreSettledBut slot t → AreSettled v)
  stays_all_settled v e into = told_so told (λ this h settled.
      put_in_settled slot a b t u at out v into (stays_settled Runs this a b turn e h) settled)

  -- it leaves
  pub leaves_so_far : stays turn ≡ false → Tells view old new (λ this. AreDone Runs this slot [] t u)
  leaves_so_far e = told_so told (λ this h. leaves_by this turn e h)

  pub leaves_all_settled : Tells view old new (λ this. AreSettledBut slot t → AreSettled u)
  leaves_all_settled = record { told = λ ours clean this stand settled. taken_settled slot a b t u at out settled }

-- what is told of an event, by what became of it
pub told_as : (told is : Told) (event : Event) (t u : Slots) → told ≡ is → IsToldOf told t event u → IsToldOf is t event u
told_as told is event t u e h = subst (λ r. IsToldOf r t event u) e h

-- a desk that was asked nothing
pub unasked : {Desk : Type 0} (view : View Desk Tables) (desk : Desk) → Goes view desk desk
unasked view desk = record { clean = λ h. h; ours = λ h _. h; failures_rise = omega arith }

-- ---- none waits

-- after the last event no whole request waits
pub waits_settled : (rows : List CallerRow) (events : List Event) (items : List Item) (t u : Slots) → NoneWaits rows t events items u → AreSettled u
waits_settled rows [] items t u h = h.2
waits_settled rows (event ∷ events) items t u h = waits_settled rows events h.1 h.2 u h.8

pub none_waits_on : (rows : List CallerRow) (xs ys : List Event) (first next : List Item) (t u v : Slots) → NoneWaits rows t xs first u → NoneWaits rows u ys next v
    → NoneWaits rows t (xs ++ ys) (first ++ next) v
none_waits_on rows [] ys first next t u v h k =
    subst (λ (l : List Item). NoneWaits rows t ys (l ++ next) v) (sym h.0) (subst (λ (l : Slots). NoneWaits rows l ys next v) h.1 k)
none_waits_on rows (x ∷ xs) ys first next t u v h k = (
  h.0,
  h.1 ++ next,
  h.2,
  h.3,
  ap (λ l. l ++ next) h.4 ∙ append_assoc h.0 h.1 next,
  h.5,
  h.6,
  h.7,
  none_waits_on rows xs ys h.1 next h.2 u v h.8 k,
)

one_waits : (rows : List CallerRow) (event : Event) (items : List Item) (t u : Slots) → events_of items ≡ event ∷ []
    → AllByRecursion (λ item. slot_in item ≡ slot_of event) items → Steps rows t items u → (AreSettled t → AreSettled u) → AreSettled t
    → NoneWaits rows t (event ∷ []) items u
one_waits rows event items t u told own steps settled before = (items, [], u, before, sym (append-nil items), told, own, steps, (refl, refl, settled before))

-- one event was told
one_in_turn : {Desk : Type 0} (view : View Desk Tables) (old new : Desk) (event : Event) (t u : Slots)
    → Tells view old new (λ this. AreDone (IsKeptRun view old new) this (slot_of event) (event ∷ []) t u) → Tells view old new (λ this. AreSettled t → AreSettled u)
    → Tells view old new (λ this. AreInTurn (IsKeptRun view old new) this (event ∷ []) t u)
one_in_turn view old new event t u so_far settled = told_so (told_both so_far settled) (λ this both. record {
  so_far = both.0.so_far;
  waits = λ before. one_waits this.callers event both.0.so_far.items t u both.0.so_far.told both.0.own both.0.so_far.steps both.1 before;
})

own_on : (slot : ℕ) (xs ys : List Item) → AllByRecursion (λ item. slot_in item ≡ slot) xs → AllByRecursion (λ item. slot_in item ≡ slot) ys
    → AllByRecursion (λ item. slot_in item ≡ slot) (xs ++ ys)
own_on slot [] ys h k = k
own_on slot (x ∷ xs) ys h k = (h.0, own_on slot xs ys h.1 k)

-- ---- one after another

module _ {Desk : Type 0} (view : View Desk Tables) (old between new : Desk) (goes : Goes view old between) (next_goes : Goes view between new) where
  abbrev pub joined : (this : Tables) (xs ys : List Event) (t u v : Slots) (so : AreSoFar (IsKeptRun view old between) this xs t u)
      → AreSoFar (IsKeptRun view between new) so.now ys u v → AreSoFar (IsKeptRun view old new) this (xs ++ ys) t v
  joined this xs ys t u v so more = record {
    items = so.items ++ more.items;
    told = flat_map-append event_in so.items more.items ∙ ap (λ l. l ++ events_of more.items) so.told ∙ ap (λ l. xs ++ l) more.told;
    steps = steps_on this.callers so.items more.items t u v so.steps (subst (λ rows. Steps rows u more.items v) so.callers more.steps);
    now = more.now;
    run = subst (λ cs. IsKeptRun view old new this cs more.now) (sym (calls_on so.items more.items))
        (kept_on view old between new this so.now more.now (calls_of (exchanges_of so.items)) (calls_of (exchanges_of more.items)) so.run more.run);
    callers = more.callers ∙ so.callers;
  }

  pub done_on : (slot : ℕ) (xs ys : List Event) (t u v : Slots) → Tells view old between (λ this. AreDone (IsKeptRun view old between) this slot xs t u)
      → Tells view between new (λ this. AreDone (IsKeptRun view between new) this slot ys u v)
      → Tells view old new (λ this. AreDone (IsKeptRun view old new) this slot (xs ++ ys) t v)
  done_on slot xs ys t u v first next = record {
    told = λ ours clean this stand.
        let one = first.told ours (next_goes.clean clean) this stand in
        let so = one.so_far in
        let two = next.told (goes.ours ours (next_goes.clean clean)) clean so.now (stands_after view old between this (calls_of (exchanges_of so.items)) so.now so.run) in
        record { so_far = joined this xs ys t u v so two.so_far; own = own_on slot so.items two.so_far.items one.own two.own };
  }

  pub in_turn_on : (xs ys : List Event) (t u v : Slots) → Tells view old between (λ this. AreInTurn (IsKeptRun view old between) this xs t u)
      → Tells view between new (λ this. AreInTurn (IsKeptRun view between new) this ys u v)
      → Tells view old new (λ this. AreInTurn (IsKeptRun view old new) this (xs ++ ys) t v)
  in_turn_on xs ys t u v first next = record {
    told = λ ours clean this stand.
        let one = first.told ours (next_goes.clean clean) this stand in
        let so = one.so_far in
        let two = next.told (goes.ours ours (next_goes.clean clean)) clean so.now (stands_after view old between this (calls_of (exchanges_of so.items)) so.now so.run) in
        let more = two.so_far in
        record {
          so_far = joined this xs ys t u v so more;
          waits = λ before. none_waits_on this.callers xs ys so.items more.items t u v (one.waits before)
              (subst (λ rows. NoneWaits rows u ys more.items v) so.callers (two.waits (waits_settled this.callers xs so.items t u (one.waits before))));
        };
  }

-- no event yet
pub onward_none : {Desk : Type 0} (view : View Desk Tables) (desk : Desk) (t : Connections) → IsOnward view desk desk [] t t
onward_none view desk t = record {
  goes = unasked view desk;
  in_turn = record {
    told = λ ours clean this stand. record {
      so_far = record { items = []; told = refl; steps = refl; now = this; run = (refl, idle view desk this stand); callers = refl };
      waits = λ settled. (refl, refl, settled);
    };
  };
  within = stays_same t t refl refl;
}

-- an event did what it says, and then the next request of its connection was answered
pub event_done : {Desk : Type 0} (view : View Desk Tables) (old new : Desk) (event : Event) (t u v : Connections) → IsToldOf Done t.slots.items event u.slots.items
    → StaysWithin t u → Goes view old new → {slot : ℕ} → Tells view old new (λ this. AreDone (IsKeptRun view old new) this slot [] u.slots.items v.slots.items)
    → slot ≡ slot_of event → Tells view old new (λ this. AreSettledBut slot u.slots.items → AreSettled v.slots.items) → StaysWithin u v
    → IsOnward view old new (event ∷ []) t v
event_done view old new event t u v told first goes so_far at settled next = record {
  goes = goes;
  in_turn = one_in_turn view old new event t.slots.items v.slots.items
      (done_on view old old new (unasked view old) goes (slot_of event) (event ∷ []) [] t.slots.items u.slots.items v.slots.items
      (record { told = λ ours clean this stand. event_so_far (IsKeptRun view old old) this Done event t.slots.items u.slots.items (refl, idle view old this stand) told })
      (subst (λ l. Tells view old new (λ this. AreDone (IsKeptRun view old new) this l [] u.slots.items v.slots.items)) at so_far))
      (told_so settled (λ this so before. so (subst (λ l. AreSettledBut l u.slots.items) (sym at) (event_settled event t.slots.items u.slots.items told before))));
  within = stays_on t u v first next;
}

-- there was no memory for it
pub event_missed : {Desk : Type 0} (view : View Desk Tables) (desk : Desk) (event : Event) (t u : Connections) → IsToldOf Missed t.slots.items event u.slots.items
    → StaysWithin t u → IsOnward view desk desk (event ∷ []) t u
event_missed view desk event t u told within = record {
  goes = unasked view desk;
  in_turn = one_in_turn view desk desk event t.slots.items u.slots.items
      (record { told = λ ours clean this stand. event_so_far (IsKeptRun view desk desk) this Missed event t.slots.items u.slots.items (refl, idle view desk this stand) told })
      (record { told = λ ours clean this stand before. missed_settled event t.slots.items u.slots.items told before });
  within = within;
}

-- it can't be, and changed nothing
pub event_stray : {Desk : Type 0} (view : View Desk Tables) (desk : Desk) (event : Event) (t u : Connections) → IsToldOf Stray t.slots.items event u.slots.items
    → StaysWithin t u → IsOnward view desk desk (event ∷ []) t u
event_stray view desk event t u told within = record {
  goes = unasked view desk;
  in_turn = one_in_turn view desk desk event t.slots.items u.slots.items
      (record { told = λ ours clean this stand. event_so_far (IsKeptRun view desk desk) this Stray event t.slots.items u.slots.items (refl, idle view desk this stand) told })
      (record { told = λ ours clean this stand before. subst AreSettled (sym told.1) before });
  within = within;
}

-- the slots stay
pub onward_same : {Desk : Type 0} (view : View Desk Tables) (old new : Desk) (event : Event) (t u v : Connections) → IsOnward view old new (event ∷ []) t u
    → v.slots.items ≡ u.slots.items → StaysWithin u v → IsOnward view old new (event ∷ []) t v
onward_same view old new event t u v onward same within = record {
  goes = onward.goes;
  in_turn = subst (λ l. Tells view old new (λ this. AreInTurn (IsKeptRun view old new) this (event ∷ []) t.slots.items l)) (sym same) onward.in_turn;
  within = stays_on t u v onward.within within;
}

-- no event, and the slots stay
pub onward_within : {Desk : Type 0} (view : View Desk Tables) (desk : Desk) (t u : Connections) → u.slots.items ≡ t.slots.items → StaysWithin t u
    → IsOnward view desk desk [] t u
onward_within view desk t u same within =
    let none = onward_none view desk t in
    record {
      goes = none.goes;
      in_turn = subst (λ l. Tells view desk desk (λ this. AreInTurn (IsKeptRun view desk desk) this [] t.slots.items l)) (sym same) none.in_turn;
      within = within;
    }

-- events after others
pub onward_on : {Desk : Type 0} (view : View Desk Tables) (old between new : Desk) (xs ys all : List Event) (t u v : Connections) → xs ++ ys ≡ all
    → IsOnward view old between xs t u → IsOnward view between new ys u v → IsOnward view old new all t v
onward_on view old between new xs ys all t u v is first next = subst (λ es. IsOnward view old new es t v) is (record {
  goes = goes_on first.goes next.goes;
  in_turn = in_turn_on view old between new first.goes next.goes xs ys t.slots.items u.slots.items v.slots.items first.in_turn next.in_turn;
  within = stays_on t u v first.within next.within;
})

-- ---- all of it

module _ {Desk : Type 0} (view : View Desk Tables) (old new : Desk) where
  abbrev pub all_served : Later → Alone → Alike → ActOnce IsRun → (this : Tables) (events : List Event) (t u : Slots)
      → AreInTurn (IsKeptRun view old new) this events t u → AreServedSideBySide (IsLawfulRun view old new) this events t u
  all_served later alone alike once this events t u in_turn =
      let so = in_turn.so_far in
      record {
        items = so.items;
        told = so.told;
        steps = so.steps;
        ran = same_run (IsKeptRun view old new) (IsLawfulRun view old new) this (calls_of (exchanges_of so.items))
            (λ closing run. lawful_run view old new this (calls_of (exchanges_of so.items)) closing run)
            (one_run (IsKeptRun view old new) (kept_once view old new once) this so.now (calls_of (exchanges_of so.items)) so.run so.callers);
        isolated = λ in_order. isolated this so.now (exchanges_of so.items) alone alike in_order
            (kept_plain view old new this so.now (calls_of (exchanges_of so.items)) so.run);
        own = each_served later this.callers so.items t u so.steps;
        waits = in_turn.waits;
      }

  pub lawful_side : Later → Alone → Alike → ActOnce IsRun → (events : List Event) (t u : Connections) → IsOnward view old new events t u
      → Tells view old new (λ this. AreServedSideBySide (IsLawfulRun view old new) this events t.slots.items u.slots.items)
  lawful_side later alone alike once events t u onward =
      told_so onward.in_turn (λ this in_turn. all_served later alone alike once this events t.slots.items u.slots.items in_turn)

-- ---- events in a list

pub more_events : {V : Type 0} (f : V → Event) (events : List V) (i : ℕ) (item : V) → i < length events → item ≡ get_or events i item
    → map f (take i events) ++ f item ∷ [] ≡ map f (take (i + 1) events)
more_events f events i item low is =
    ap (λ v. map f (take i events) ++ f v ∷ []) is ∙ sym (ap (map f) (take_more events i item low) ∙ map-append f (take i events) (get_or events i item ∷ []))

-- the events before one, it, and those after it
pub all_events : {V : Type 0} (f : V → Event) (events : List V) (i : ℕ) (item : V) → i < length events → item ≡ get_or events i item
    → map f events ≡ map f (take i events) ++ f item ∷ map f (drop (i + 1) events)
all_events f events i item low is =
    ap (map f) (sym (take-append-drop i events)) ∙ map-append f (take i events) (drop i events)
    ∙ ap (λ l. map f (take i events) ++ map f l) (drop_more events i item low)
    ∙ ap (λ v. map f (take i events) ++ f v ∷ map f (drop (i + 1) events)) (sym is)
