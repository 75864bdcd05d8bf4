-- One round after another, and the log of them.
use Rattle.std.proofs.Common.{◌≡◌, ◌⊎◌, inl, inr, ℕ, ◌+◌, ◌-◌, ◌<◌, List, [], ◌∷◌, ◌++◌, length, map, take, drop, get_or, Some, None, Result, Ok, Err, IfErr, OnOk, refl, sym, ap, ◌∙◌, subst, arith, append_assoc, append-nil, length-append}
use Rattle.std.proofs.lemmas.Grind.{flat_map-append}
use Rattle.std.proofs.lemmas.List.Sums.{sum_by-append, sum_by-cons, sum_by_push}
use Rattle.catalogue.specs.View.{Goes, IsOpen, Tells, View}
use Rattle.catalogue.proofs.SourceFacts.{goes_on, told_so}
use Rattle.bureau_store.specs.Tables.{Tables}
use Rattle.bureau_store.specs.declared.caller.CallerRow.{CallerRow}
use Rattle.bureau.specs.Joint.{IsRun}
use Rattle.bureau.specs.Kept.{IsKeptRun}
use Rattle.bureau.proofs.KeptFacts.{idle, stands_after}
use Rattle.bureau_http.specs.Exchange.{calls_of}
use Rattle.bureau_http.proofs.IsolatedFacts.{Alike, Alone}
use Rattle.bureau_http.proofs.ServingFacts.{ActOnce}
use Rattle.connections.specs.Items.{AreFree, Event, Item, Slots, comers, comers_in, exchanges_of}
use Rattle.connections.specs.Memory.{StaysWithin}
use Rattle.connections.specs.Rounds.{AreAllServed, AreCounted, AreInRounds, AreRounds, AreShown, EndsBy, EndsInFailure, Entry, Fails, GoesInRounds, HasHaltedBy, HasServed, HasServedAll, HasServedBut, HasServedUntil, IsHaltedBy, IsStill, Log, Logs, last_showing, round_of, told_in}
use Rattle.connections.specs.Service.{IsSound}
use Rattle.connections.specs.SideBySide.{IsOnward, NoneWaits}
use Rattle.connections.specs.Turns.{AreSettled}
use Rattle.connections.specs.declared.rounds.Halt.{Halt}
use Rattle.connections.specs.declared.rounds.Halt.TheVariants as halt
use Rattle.connections.specs.declared.rounds.RoundFault.{RoundFault}
use Rattle.connections.specs.declared.rounds.RoundFault.TheVariants.{System}
use Rattle.connections.specs.declared.slots.Connections.{Connections}
use Rattle.connections.proofs.MemoryFacts.{stays_on, stays_same}
use Rattle.connections.proofs.ReadingFacts.{Later}
use Rattle.connections.proofs.SideFacts.{all_events, all_served, joined, more_events, none_waits_on, onward_none, unasked, waits_settled}

-- ---- the log

pub logs_none : (log : Log) → Logs log log []
logs_none None = tt
logs_none (Some rounds) = ap (λ l. Some l) (append-nil rounds)

pub logs_on : (a b c : Log) (xs ys : List Entry) → Logs a b xs → Logs b c ys → Logs a c (xs ++ ys)
logs_on a b None xs ys first next = tt
logs_on a None (Some z) xs ys first next = absurd (cc)
logs_on None (Some y) (Some z) xs ys first next = absurd (cc)
logs_on (Some x) (Some y) (Some z) xs ys first next =
    let is : y ≡ x ++ xs = cc in
    ap (λ l. Some l) (sym (append_assoc x xs ys) ∙ ap (λ l. l ++ ys) (sym is)) ∙ next

told_on : (xs ys : List Entry) → told_in (xs ++ ys) ≡ told_in xs ++ told_in ys
told_on xs ys = flat_map-append (λ (round : Entry). round.told) xs ys

-- ---- how many are to come

comers_on : (xs ys : List Entry) → comers (told_in (xs ++ ys)) ≡ comers (told_in xs) + comers (told_in ys)
comers_on xs ys = ap comers (told_on xs ys) ∙ sum_by-append comers_in (told_in xs) (told_in ys)

left_on : (rest left count x y all : ℕ) → all ≡ x + y → rest + y ≡ left → left + x ≡ count → rest + all ≡ count
left_on rest left count x y all is next first = omega (arith, is, next, first)

many_on : (left count x y all : ℕ) → all ≡ x + y → left < y → left + x ≡ count → count < all
many_on left count x y all is many first = omega (arith, is, many, first)

less_none : (count : ℕ) → count ≡ count - 0
less_none count = omega (arith)

less_twice : (count x y all : ℕ) → all ≡ x + y → count - all ≡ (count - x) - y
less_twice count x y all is = omega (arith, is)

less_come : (left count come : ℕ) → left + come ≡ count → left ≡ count - come
less_come left count come is = omega (arith, is)

counted_on : (count : ℕ) (xs ys : List Entry) → AreCounted count xs → AreCounted (count - comers (told_in xs)) ys → AreCounted count (xs ++ ys)
counted_on count [] ys each next = subst (λ n. AreCounted n ys) (sym (less_none count)) next
counted_on count (x ∷ xs) ys each next = (
  each.0,
  counted_on (count - comers x.told) xs ys each.1
      (subst (λ n. AreCounted n ys)
      (less_twice count (comers x.told) (comers (told_in xs)) (comers (told_in (x ∷ xs))) (sum_by-append comers_in x.told (told_in xs))) next),
)

-- where so many are left
counted_then : (left count : ℕ) (xs ys : List Entry) → left + comers (told_in xs) ≡ count → AreCounted count xs → AreCounted left ys → AreCounted count (xs ++ ys)
counted_then left count xs ys come each next =
    counted_on count xs ys each (subst (λ n. AreCounted n ys) (less_come left count (comers (told_in xs)) come) next)

-- those of the first events, of one more, and of the others
pub comers_next : {V : Type 0} (f : V → Event) (events : List V) (i : ℕ) (item : V) → i < length events → item ≡ get_or events i item
    → comers (map f (take (i + 1) events)) ≡ comers (map f (take i events)) + comers_in (f item)
comers_next f events i item low is = sym (ap comers (more_events f events i item low is)) ∙ sum_by_push comers_in (map f (take i events)) (f item)

pub comers_at : {V : Type 0} (f : V → Event) (events : List V) (i : ℕ) (item : V) → i < length events → item ≡ get_or events i item
    → comers (map f events) ≡ comers (map f (take i events)) + (comers_in (f item) + comers (map f (drop (i + 1) events)))
comers_at f events i item low is =
    ap comers (all_events f events i item low is) ∙ sum_by-append comers_in (map f (take i events)) (f item ∷ map f (drop (i + 1) events))
    ∙ ap (λ k. comers (map f (take i events)) + k) (sum_by-cons comers_in (f item) (map f (drop (i + 1) events)))

-- ---- what was shown

shown_on : (rows : List CallerRow) (xs ys : List Entry) (first next : List Item) (t u v : Slots) → AreShown rows t xs first u → AreShown rows u ys next v
    → AreShown rows t (xs ++ ys) (first ++ next) v
shown_on rows [] ys first next t u v h k =
    subst (λ (l : List Item). AreShown rows t ys (l ++ next) v) (sym h.0) (subst (λ (l : Slots). AreShown rows l ys next v) h.1 k)
shown_on rows (x ∷ xs) ys first next t u v h k =
    (h.0, h.1 ++ next, h.2, h.3, ap (λ l. l ++ next) h.4 ∙ append_assoc h.0 h.1 next, h.5, shown_on rows xs ys h.1 next h.2 u v h.6 k)

shown_settled : (rows : List CallerRow) (xs : List Entry) (items : List Item) (t u : Slots) → AreSettled t → AreShown rows t xs items u → AreSettled u
shown_settled rows [] items t u before h = subst AreSettled (sym h.1) before
shown_settled rows (x ∷ xs) items t u before h = shown_settled rows xs h.1 h.2 u (waits_settled rows x.told h.0 t h.2 h.5) h.6

-- none waits at any event
pub shown_waits : (rows : List CallerRow) (xs : List Entry) (items : List Item) (t u : Slots) → AreSettled t → AreShown rows t xs items u
    → NoneWaits rows t (told_in xs) items u
shown_waits rows [] items t u before h = (h.0, h.1, subst AreSettled (sym h.1) before)
shown_waits rows (x ∷ xs) items t u before h =
    subst (λ (l : List Item). NoneWaits rows t (x.told ++ told_in xs) l u) (sym h.4)
    (none_waits_on rows x.told (told_in xs) h.0 h.1 t h.2 u h.5 (shown_waits rows xs h.1 h.2 u (waits_settled rows x.told h.0 t h.2 h.5) h.6))

one_shown : (rows : List CallerRow) (one : Entry) (items : List Item) (t u : Slots) → one.shown ≡ t → NoneWaits rows t one.told items u
    → AreShown rows t (one ∷ []) items u
one_shown rows one items t u shown h = (items, [], u, shown, sym (append-nil items), h, (refl, refl))

-- ---- one after another

module _ {Desk : Type 0} (view : View Desk Tables) where
  pub in_rounds_on : (old between new : Desk) → Goes view old between → Goes view between new → (xs ys : List Entry) (t u v : Slots)
      → Tells view old between (λ this. AreInRounds (IsKeptRun view old between) this xs t u)
      → Tells view between new (λ this. AreInRounds (IsKeptRun view between new) this ys u v)
      → Tells view old new (λ this. AreInRounds (IsKeptRun view old new) this (xs ++ ys) t v)
  in_rounds_on old between new goes next_goes xs ys t u v first next = record {
    told = λ ours clean this stand.
        let one = first.told ours (next_goes.clean clean) this stand in
        let so = one.so_far in
        let two = next.told (goes.ours ours (next_goes.clean clean)) clean so.now (stands_after view old between this (calls_of (exchanges_of so.items)) so.now so.run) in
        let more = two.so_far in
        let all = joined view old between new goes next_goes this (told_in xs) (told_in ys) t u v so more in
        record {
          so_far = record {
            items = so.items ++ more.items;
            told = all.told ∙ sym (told_on xs ys);
            steps = all.steps;
            now = all.now;
            run = all.run;
            callers = all.callers;
          };
          shown = λ settled. shown_on this.callers xs ys so.items more.items t u v (one.shown settled)
              (subst (λ rows. AreShown rows u ys more.items v) so.callers (two.shown (shown_settled this.callers xs so.items t u settled (one.shown settled))));
        };
  }

  goes_in_on : (old between new : Desk) (xs ys : List Entry) (t u v : Connections) → GoesInRounds view old between xs t u → GoesInRounds view between new ys u v
      → GoesInRounds view old new (xs ++ ys) t v
  goes_in_on old between new xs ys t u v first next = record {
    goes = goes_on first.goes next.goes;
    in_rounds = in_rounds_on old between new first.goes next.goes xs ys t.slots.items u.slots.items v.slots.items first.in_rounds next.in_rounds;
    within = stays_on t u v first.within next.within;
  }

  pub goes_in_none : (desk : Desk) (t : Connections) → GoesInRounds view desk desk [] t t
  goes_in_none desk t = record {
    goes = unasked view desk;
    in_rounds = record {
      told = λ ours clean this stand. record {
        so_far = record { items = []; told = refl; steps = refl; now = this; run = (refl, idle view desk this stand); callers = refl };
        shown = λ settled. (refl, refl);
      };
    };
    within = stays_same t t refl refl;
  }

  pub one_round : (old new : Desk) (one : Entry) (t u : Connections) → one.shown ≡ t.slots.items → IsOnward view old new one.told t u
      → GoesInRounds view old new (one ∷ []) t u
  one_round old new one t u shown onward = record {
    goes = onward.goes;
    in_rounds = told_so onward.in_turn (λ this it. record {
      so_far = record {
        items = it.so_far.items;
        told = it.so_far.told ∙ sym (append-nil one.told);
        steps = it.so_far.steps;
        now = it.so_far.now;
        run = it.so_far.run;
        callers = it.so_far.callers;
      };
      shown = λ settled. one_shown this.callers one it.so_far.items t.slots.items u.slots.items shown (it.waits settled);
    });
    within = onward.within;
  }

  -- room was shared out
  goes_in_same : (old new : Desk) (xs : List Entry) (t u v : Connections) → GoesInRounds view old new xs t u → v.slots.items ≡ u.slots.items → StaysWithin u v
      → GoesInRounds view old new xs t v
  goes_in_same old new xs t u v so same within = record {
    goes = so.goes;
    in_rounds = subst (λ l. Tells view old new (λ this. AreInRounds (IsKeptRun view old new) this xs t.slots.items l)) (sym same) so.in_rounds;
    within = stays_on t u v so.within within;
  }

  pub still_on : (old between new : Desk) (xs ys : List Event) → IsStill view old between xs → IsStill view between new ys → IsStill view old new (xs ++ ys)
  still_on old between new xs ys first (inr is) = inr is
  still_on old between new xs ys (inl none) (inl also) = inl (ap (λ l. l ++ ys) none.0 ∙ also.0, also.1 ∙ none.1)
  still_on old between new xs ys (inr is) (inl also) = inr (subst (IsOpen view) (sym also.1) is)

  still_rounds : (old between new : Desk) (xs ys : List Entry) → IsStill view old between (told_in xs) → IsStill view between new (told_in ys)
      → IsStill view old new (told_in (xs ++ ys))
  still_rounds old between new xs ys first next =
      subst (IsStill view old new) (sym (told_on xs ys)) (still_on old between new (told_in xs) (told_in ys) first next)

  pub still_sound : (old new : Desk) (events : List Event) → IsStill view old new events → IsSound view new events
  still_sound old new events (inl none) = inl none.0
  still_sound old new events (inr is) = inr is

  module _ (old between new : Desk) (log mid log_after : Log) (t u v : Connections) where
    abbrev both : (left count : ℕ) (first : HasServed view old between log mid t u count) → left + comers (told_in first.rounds) ≡ count
        → HasServed view between new mid log_after u v left → HasServed view old new log log_after t v count
    both left count first come next = record {
      rounds = first.rounds ++ next.rounds;
      logged = logs_on log mid log_after first.rounds next.rounds first.logged next.logged;
      counted = counted_then left count first.rounds next.rounds come first.counted next.counted;
      onward = goes_in_on old between new first.rounds next.rounds t u v first.onward next.onward;
      still = still_rounds old between new first.rounds next.rounds first.still next.still;
    }

    pub served_on : (rest left count turns : ℕ) → HasServedBut view old between log mid t u left count turns → HasServedBut view between new mid log_after u v rest left 1
        → HasServedBut view old new log log_after t v rest count (turns + 1)
    served_on rest left count turns first next =
        let xs = first.so_far.rounds in
        let ys = next.so_far.rounds in
        let one = first.turned in
        let more = next.turned in
        let all = length-append xs ys in
        record {
          so_far = both left count first.so_far first.come next.so_far;
          come = left_on rest left count (comers (told_in xs)) (comers (told_in ys)) (comers (told_in (xs ++ ys))) (comers_on xs ys) next.come first.come;
          turned = omega (arith, one, more, all);
        }

    until_on : (left count turns : ℕ) → HasServedBut view old between log mid t u left count turns → HasServedUntil view between new mid log_after u v left
        → HasServedUntil view old new log log_after t v count
    until_on left count turns first until =
        let xs = first.so_far.rounds in
        let ys = until.so_far.rounds in
        record {
          between = until.between;
          mid = until.mid;
          there = until.there;
          so_far = record {
            rounds = xs ++ ys;
            logged = logs_on log mid until.mid xs ys first.so_far.logged until.so_far.logged;
            counted = counted_then left count xs ys first.come first.so_far.counted until.so_far.counted;
            onward = goes_in_on old between until.between xs ys t u until.there first.so_far.onward until.so_far.onward;
            still = still_rounds old between until.between xs ys first.so_far.still until.so_far.still;
          };
          left = until.left;
          come = left_on until.left left count (comers (told_in xs)) (comers (told_in ys)) (comers (told_in (xs ++ ys))) (comers_on xs ys) until.come first.come;
          events = until.events;
          parted = until.parted;
          told = until.told;
          fails = until.fails;
          last = until.last;
        }

    why_on : (Over : RoundFault → Type 0) (fault : RoundFault) (left count turns : ℕ) (first : HasServedBut view old between log mid t u left count turns)
        (next : HasServed view between new mid log_after u v left) → Over fault ⊎ ((fault ≡ System) × (left < comers (told_in next.rounds)))
        → HasHaltedBy view Over (halt.Rounds fault) old new log log_after t v count
    why_on Over fault left count turns first next (inl over) = (both left count first.so_far first.come next, inl over)
    why_on Over fault left count turns first next (inr many) =
        let xs = first.so_far.rounds in
        let ys = next.rounds in (
          both left count first.so_far first.come next,
          inr (many.0, inl (many_on left count (comers (told_in xs)) (comers (told_in ys)) (comers (told_in (xs ++ ys))) (comers_on xs ys) many.1 first.come)),
        )

    pub ended_on : (Over : RoundFault → Type 0) (why : Halt) (left count turns : ℕ) → HasServedBut view old between log mid t u left count turns
        → EndsBy view Over why between new mid log_after u v left → HasHaltedBy view Over why old new log log_after t v count
    ended_on Over halt.Device left count turns first until = until_on left count turns first until
    ended_on Over (halt.Rounds fault) left count turns first so = why_on Over fault left count turns first so.0 so.1

  -- nothing was told yet
  abbrev pub served_none : (desk : Desk) (log : Log) (t : Connections) (count : ℕ) → HasServed view desk desk log log t t count
  served_none desk log t count = record {
    rounds = [];
    logged = logs_none log;
    counted = tt;
    onward = goes_in_none desk t;
    still = inl (refl, refl);
  }

  none_come : (count : ℕ) → count + comers (told_in []) ≡ count
  none_come count = (let none : comers (told_in []) ≡ 0 = refl in omega (arith, none))

  pub served_none_but : (desk : Desk) (log : Log) (t : Connections) (count : ℕ) → HasServedBut view desk desk log log t t count count 0
  served_none_but desk log t count = record {
    so_far = served_none desk log t count;
    come = none_come count;
    turned = refl;
  }

  -- no more rounds are counted
  pub counted_out : (Over : RoundFault → Type 0) (old new : Desk) (log log_after : Log) (t u : Connections) (left count turns : ℕ)
      → HasServedBut view old new log log_after t u left count turns → turns ≡ 18446744073709551615 → HasHaltedBy view Over (halt.Rounds System) old new log log_after t u count
  counted_out Over old new log log_after t u left count turns so all = (so.so_far, inr (refl, inr (so.turned ∙ all)))

  -- ---- one round

  module _ (old new : Desk) (log log_after : Log) (left : ℕ) (events : List Event) (t u : Connections)
      (logged : Logs log log_after (round_of t.slots.items left events ∷ [])) where
    abbrev one : Entry
    one = round_of t.slots.items left events

    -- its events were served
    abbrev pub round_served : IsOnward view old new events t u → IsStill view old new events → HasServed view old new log log_after t u left
    round_served onward still = record {
      rounds = one ∷ [];
      logged = logged;
      counted = (refl, tt);
      onward = one_round old new one t u refl onward;
      still = subst (IsStill view old new) (sym (append-nil events)) still;
    }

    comers_one : comers (told_in (one ∷ [])) ≡ comers events
    comers_one = ap comers (append-nil events)

    -- and then room was shared out
    pub round_served_but : IsOnward view old new events t u → IsStill view old new events → (v : Connections) → v.slots.items ≡ u.slots.items → StaysWithin u v
        → (rest : ℕ) → rest + comers events ≡ left → HasServedBut view old new log log_after t v rest left 1
    round_served_but onward still v same within rest is = record {
      so_far = record {
        rounds = one ∷ [];
        logged = logged;
        counted = (refl, tt);
        onward = goes_in_same old new (one ∷ []) t u v (one_round old new one t u refl onward) same within;
        still = subst (IsStill view old new) (sym (append-nil events)) still;
      };
      come = ap (λ k. rest + k) comers_one ∙ is;
      turned = refl;
    }

    pub round_many : left < comers events → left < comers (told_in (one ∷ []))
    round_many many = subst (λ k. left < k) (sym comers_one) many

    pub round_failed : (last : Log) → Fails view old new events t u → Logs log_after last (last_showing u.slots.items ∷ [])
        → HasServedUntil view old new log last t u left
    round_failed last fails parted = record {
      between = old;
      mid = log;
      there = t;
      so_far = served_none old log t left;
      left = left;
      come = none_come left;
      events = events;
      parted = log_after;
      told = logged;
      fails = fails;
      last = parted;
    }

  -- ---- all of it

  module _ (later : Later) (alone : Alone) (alike : Alike) (once : ActOnce IsRun) (old : Desk) (t : Connections) where
    lawful_rounds : (new : Desk) (rounds : List Entry) (u : Connections) → GoesInRounds view old new rounds t u
        → AreRounds view old new rounds t.slots.items u.slots.items
    lawful_rounds new rounds u so = told_so so.in_rounds (λ this it. record {
      side = all_served view old new later alone alike once this (told_in rounds) t.slots.items u.slots.items (record {
        so_far = it.so_far;
        waits = λ settled. shown_waits this.callers rounds it.so_far.items t.slots.items u.slots.items settled (it.shown settled);
      });
      shown = it.shown;
    })

    module _ (new : Desk) (log log_after : Log) (u : Connections) where
      pub all_so : {A : Type 0} (answer : Result A Halt) (count : ℕ) → OnOk answer (HasServedAll view old new log log_after t u count)
          → OnOk answer (AreFree u.slots.items) → OnOk answer (AreAllServed view old new log log_after t.slots.items u.slots.items count)
      all_so (Ok done) count so gone =
          let it = so.1.so_far in
          let is = so.1.come in
          record {
            rounds = it.rounds;
            logged = it.logged;
            counted = it.counted;
            served = lawful_rounds new it.rounds u it.onward;
            sound = still_sound old new (told_in it.rounds) it.still;
            came = omega (arith, is);
            gone = gone;
          }
      all_so (Err why) count so gone = tt

      until_so : (count : ℕ) → HasServedUntil view old new log log_after t u count → EndsInFailure view old new log log_after t.slots.items u.slots.items count
      until_so count until =
          let fails = until.fails in
          let so = until.so_far in
          let shown = until.there.slots.items in
          let come = until.come in
          let round = round_of shown until.left in
          let parts = so.rounds ++ round until.events ∷ last_showing u.slots.items ∷ [] in
          record {
            earlier = so.rounds;
            shown = shown;
            left = until.left;
            first = fails.first;
            last = fails.last;
            rest = fails.rest;
            logged = subst (λ (events : List Event). Logs log log_after (so.rounds ++ round events ∷ last_showing u.slots.items ∷ [])) fails.are
                (logs_on log until.mid log_after so.rounds (round until.events ∷ last_showing u.slots.items ∷ []) so.logged
                (logs_on until.mid until.parted log_after (round until.events ∷ []) (last_showing u.slots.items ∷ []) until.told until.last));
            counted = counted_then until.left count so.rounds (round (fails.first ++ fails.last ∷ fails.rest) ∷ []) come so.counted (refl, tt);
            fewer = omega (arith, come);
            between = fails.between;
            between_slots = fails.mid.slots.items;
            served = lawful_rounds fails.between (so.rounds ++ round fails.first ∷ []) fails.mid
                (goes_in_on old until.between fails.between so.rounds (round fails.first ∷ []) t until.there fails.mid so.onward
                (one_round until.between fails.between (round fails.first) until.there fails.mid refl fails.onward));
            sound = still_sound old fails.between (told_in so.rounds ++ fails.first)
                (still_on old until.between fails.between (told_in so.rounds) fails.first so.still fails.still);
            failed = fails.failed;
            whole = lawful_rounds new (so.rounds ++ round (fails.first ++ fails.last ∷ []) ∷ last_showing u.slots.items ∷ []) u
                (goes_in_on old until.between new so.rounds (round (fails.first ++ fails.last ∷ []) ∷ last_showing u.slots.items ∷ []) t until.there u so.onward
                (goes_in_on until.between new new (round (fails.first ++ fails.last ∷ []) ∷ []) (last_showing u.slots.items ∷ []) until.there u u
                (one_round until.between new (round (fails.first ++ fails.last ∷ [])) until.there u refl fails.whole)
                (one_round new new (last_showing u.slots.items) u u refl (onward_none view new u))));
          }

      halted_by : (Over : RoundFault → Type 0) (why : Halt) (count : ℕ) → HasHaltedBy view Over why old new log log_after t u count
          → IsHaltedBy view old new log log_after t.slots.items u.slots.items Over count why
      halted_by Over halt.Device count until = until_so count until
      halted_by Over (halt.Rounds fault) count so = record {
        rounds = so.0.rounds;
        logged = so.0.logged;
        counted = so.0.counted;
        served = lawful_rounds new so.0.rounds u so.0.onward;
        sound = still_sound old new (told_in so.0.rounds) so.0.still;
        why = so.1;
      }

      pub halted_so : {A : Type 0} (Over : RoundFault → Type 0) (answer : Result A Halt) (count : ℕ)
          → IfErr answer (λ why. HasHaltedBy view Over why old new log log_after t u count)
          → IfErr answer (IsHaltedBy view old new log log_after t.slots.items u.slots.items Over count)
      halted_so Over (Ok done) count so = tt
      halted_so Over (Err why) count so = halted_by Over why count so

  module _ (old new : Desk) (log log_after : Log) (t u : Connections) where
    until_goes : (count : ℕ) → HasServedUntil view old new log log_after t u count → Goes view old new × StaysWithin t u
    until_goes count until = (goes_on until.so_far.onward.goes until.fails.whole.goes, stays_on t until.there u until.so_far.onward.within until.fails.whole.within)

    goes_by : (Over : RoundFault → Type 0) (why : Halt) (count : ℕ) → HasHaltedBy view Over why old new log log_after t u count → Goes view old new × StaysWithin t u
    goes_by Over halt.Device count until = until_goes count until
    goes_by Over (halt.Rounds fault) count so = (so.0.onward.goes, so.0.onward.within)

    pub goes_so : {A : Type 0} (Over : RoundFault → Type 0) (answer : Result A Halt) (count : ℕ) → OnOk answer (HasServedAll view old new log log_after t u count)
        → IfErr answer (λ why. HasHaltedBy view Over why old new log log_after t u count) → Goes view old new × StaysWithin t u
    goes_so Over (Ok done) count so fault = (so.1.so_far.onward.goes, so.1.so_far.onward.within)
    goes_so Over (Err why) count so fault = goes_by Over why count fault
