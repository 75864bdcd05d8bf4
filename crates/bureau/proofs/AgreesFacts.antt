-- At every point of a run, what the tables show to the publisher and to one caller is what the own history left.
use Rattle.std.proofs.Common.{◌≡◌, ◌⊎◌, ℕ, ◌+◌, ◌==◌, ◌||◌, ◌&&◌, not, Bool, true, false, cond, List, [], ◌∷◌, ◌++◌, refl, sym, ◌∙◌, ap, subst, inl, inr, append_assoc, append-nil, add-zero}
use Rattle.std.specs.Prelude.{Option, Some, None, filter, map, reverse, if◌then◌else◌}
use Rattle.std.specs.List.{list_any}
use Rattle.std.specs.List.Sorted.{IsStrictlySortedBy}
use Rattle.std.specs.Map.{keys_of}
use Rattle.std.specs.Option.{option_map}
use Rattle.std.specs.Str.{bytes_eq}
use Rattle.std.proofs.lemmas.List.{map-append, reverse-append}
use Rattle.std.proofs.lemmas.List.Elements.{filter-append}
use Rattle.supersede.proofs.GivingFacts.{same_self}
use Rattle.bureau_store.specs.Caller.{is_caller}
use Rattle.catalogue.specs.Content.{Content}
use Rattle.catalogue.specs.Publication.{after}
use Rattle.catalogue.specs.declared.change.Change.{Change}
use Rattle.catalogue.proofs.PublicationFacts.{after_none}
use Rattle.bureau_store.specs.Effect.{Effect, publication, zone_put, zone_dropped, received_put, patterns_put, at_client, content_after, received_after, tables_after, zones_after}
use Rattle.bureau_store.specs.Tables.{AreInOrder, LastChange, Tables, ZoneTable, Zones, name_order, patterns_of, zone_named}
use Rattle.bureau_store.specs.declared.caller.Caller.{Caller}
use Rattle.bureau_store.specs.declared.caller.Caller.TheVariants.{Publisher, Client}
use Rattle.bureau.specs.Alone.{AreAnsweredAlike, IsAlone, asked_in, is_own, opening_of, own_history}
use Rattle.bureau.specs.Joint.{CallBy, IsRun, IsStep, tables_left}
use Rattle.bureau.specs.Outcome.{Answer, Outcome, answered, accepted, answer_of, no_room, outcome}
use Rattle.bureau.specs.Own.{Accepted, Asked, Opening, accepted_in, change_of, content_left, last_left, own_answer, own_view, received_left, zone_left, zones_left}
use Rattle.bureau.specs.View.{View, view_of}
use Rattle.bureau.proofs.FoundFacts.{found_again, found_same}
use Rattle.bureau.proofs.LeftFacts.{AreKept, IsOfZone, content_more, kept_more, last_more, received_more, zones_more}
use Rattle.bureau.proofs.NamesFacts.{same_caller}
use Rattle.bureau.proofs.ProperFacts.{IsPossible, IsProper, proper}

-- the tables as the publisher and the viewer see them are what the accepted changes of the own history left
pub record Agrees (viewer : Caller) (opening : Opening) (changes : List Accepted) (now : Tables) : Type 0 where
  pub content : content_left opening changes ≡ now.content
  pub publisher : last_left opening Publisher changes ≡ now.last Publisher
  pub own : last_left opening viewer changes ≡ now.last viewer
  pub zones : (name : List ℕ) → viewer ≡ Client name → zones_left opening changes ≡ now.zones name
  pub received : (name : List ℕ) → viewer ≡ Client name → received_left opening changes ≡ now.received name
  pub kept : AreKept opening changes

-- the publisher, or the viewer
abbrev pub IsOwn : Caller → Caller → Type 0
IsOwn viewer caller = (caller ≡ Publisher) ⊎ (caller ≡ viewer)

view_eq : (caller : Caller) (content content2 : Content) (last last2 : LastChange) (zones zones2 : Zones) (received received2 : List (List ℕ))
    → content ≡ content2 → last ≡ last2 → zones ≡ zones2 → received ≡ received2
    → ◌≡◌ {A = View} (record { caller = caller; content = content; last = last; zones = zones; received = received }) (record { caller = caller; content = content2; last = last2; zones = zones2; received = received2 })
view_eq caller content content2 last last2 zones zones2 received received2 p q r s = λ i. record { caller = caller; content = p i; last = q i; zones = r i; received = s i }

-- what a client is: the viewer
the_viewer : (viewer : Caller) (name : List ℕ) → IsOwn viewer (Client name) → viewer ≡ Client name
the_viewer viewer name (inl is) = cc
the_viewer viewer name (inr is) = sym is

view_agrees : (viewer : Caller) (opening : Opening) (changes : List Accepted) (now : Tables) (caller : Caller) → Agrees viewer opening changes now → IsOwn viewer caller
    → own_view opening changes caller ≡ view_of caller now
view_agrees viewer opening changes now Publisher agrees is =
    view_eq Publisher (content_left opening changes) now.content (last_left opening Publisher changes) (now.last Publisher) [] [] [] [] agrees.content agrees.publisher refl refl
view_agrees viewer opening changes now (Client name) agrees is =
    view_eq (Client name) (content_left opening changes) now.content (last_left opening (Client name) changes) (now.last (Client name)) (zones_left opening changes) (now.zones name) (received_left opening changes) (now.received name)
    agrees.content
    (subst (λ c. last_left opening c changes ≡ now.last c) (the_viewer viewer name is) agrees.own)
    (agrees.zones name (the_viewer viewer name is))
    (agrees.received name (the_viewer viewer name is))

-- ---- one more change

module _ (viewer : Caller) (opening : Opening) (changes : List Accepted) (now : Tables) (effect : Effect) (text : List ℕ) where
  last_step : (caller w : Caller) → last_left opening w changes ≡ now.last w
      → last_left opening w (record { caller = caller; effect = effect; reply = text } ∷ changes) ≡ (tables_after caller effect (record { number = (now.last caller).number + 1; reply = text }) now).last w
  last_step caller w was =
      last_more opening w (record { caller = caller; effect = effect; reply = text }) changes (is_caller caller w) refl
      ∙ by (is_caller caller w) refl
    where
      by : (b : Bool) → is_caller caller w ≡ b → cond b (record { number = (last_left opening w changes).number + 1; reply = text }) (last_left opening w changes)
          ≡ (if b then record { number = (now.last caller).number + 1; reply = text } else now.last w)
      by true is = ap (λ l. record { number = l.number + 1; reply = text }) (was ∙ ap (λ c. now.last c) (sym (same_caller caller w is)))
      by false is = was

  -- by the publisher
  by_publisher : Agrees viewer opening changes now → IsPossible [] Publisher effect
      → Agrees viewer opening (record { caller = Publisher; effect = effect; reply = text } ∷ changes) (tables_after Publisher effect (record { number = (now.last Publisher).number + 1; reply = text }) now)
  by_publisher agrees possible = record {
    content = content_more opening (record { caller = Publisher; effect = effect; reply = text }) changes ∙ ap (content_after effect) agrees.content;
    publisher = last_step Publisher Publisher agrees.publisher;
    own = last_step Publisher viewer agrees.own;
    zones = λ name is. zones_more opening (record { caller = Publisher; effect = effect; reply = text }) changes agrees.kept (of_zone effect possible) ∙ same_zones effect possible ∙ agrees.zones name is;
    received = λ name is. received_more opening (record { caller = Publisher; effect = effect; reply = text }) changes ∙ same_received effect possible ∙ agrees.received name is;
    kept = kept_more opening (record { caller = Publisher; effect = effect; reply = text }) changes agrees.kept (of_zone effect possible);
  }
    where
      -- a publication is all that the publisher makes
      of_publisher : (P : Effect → Type 0) → ((more : List Change) → P (publication more)) → (e : Effect) → IsPossible [] Publisher e → P e
      of_publisher P published (publication more) h = published more
      of_publisher P published (zone_put name rows) h = absurd h
      of_publisher P published (zone_dropped name) h = absurd h
      of_publisher P published (received_put ids) h = absurd h
      of_publisher P published (patterns_put name patterns) h = absurd h

      of_zone : (e : Effect) → IsPossible [] Publisher e → IsOfZone (zones_left opening changes) e
      of_zone = of_publisher (IsOfZone (zones_left opening changes)) (λ more. tt)

      same_zones : (e : Effect) → IsPossible [] Publisher e → zones_after e (zones_left opening changes) ≡ zones_left opening changes
      same_zones = of_publisher (λ e. zones_after e (zones_left opening changes) ≡ zones_left opening changes) (λ more. refl)

      same_received : (e : Effect) → IsPossible [] Publisher e → received_after e (received_left opening changes) ≡ received_left opening changes
      same_received = of_publisher (λ e. received_after e (received_left opening changes) ≡ received_left opening changes) (λ more. refl)

  -- by the viewer, a client
  by_client : (client : List ℕ) → viewer ≡ Client client → Agrees viewer opening changes now → IsPossible (now.zones client) (Client client) effect
      → Agrees viewer opening (record { caller = Client client; effect = effect; reply = text } ∷ changes) (tables_after (Client client) effect (record { number = (now.last (Client client)).number + 1; reply = text }) now)
  by_client client is agrees possible = record {
    content = content_more opening (record { caller = Client client; effect = effect; reply = text }) changes ∙ ap (content_after effect) agrees.content;
    publisher = last_step (Client client) Publisher agrees.publisher;
    own = last_step (Client client) viewer agrees.own;
    zones = λ name viewed. zones_more opening (record { caller = Client client; effect = effect; reply = text }) changes agrees.kept there ∙ ap (zones_after effect) (agrees.zones name viewed) ∙ sym (at_own (zones_after effect) now.zones name viewed);
    received = λ name viewed. received_more opening (record { caller = Client client; effect = effect; reply = text }) changes ∙ ap (received_after effect) (agrees.received name viewed) ∙ sym (at_own (received_after effect) now.received name viewed);
    kept = kept_more opening (record { caller = Client client; effect = effect; reply = text }) changes agrees.kept there;
  }
    where
      of_zone : (zones : Zones) (e : Effect) → IsPossible zones (Client client) e → IsOfZone zones e
      of_zone zones (publication more) h = tt
      of_zone zones (zone_put name rows) h = tt
      of_zone zones (zone_dropped name) h = tt
      of_zone zones (received_put ids) h = tt
      of_zone zones (patterns_put name patterns) h = h

      there : IsOfZone (zones_left opening changes) effect
      there = of_zone (zones_left opening changes) effect (subst (λ zones. IsPossible zones (Client client) effect) (sym (agrees.zones client is)) possible)

      at_own : {A : Type 0} (f : A → A) (old : List ℕ → A) (name : List ℕ) → viewer ≡ Client name → at_client (Client client) f old name ≡ f (old name)
      at_own f old name viewed = ap (λ (b : Bool). if b then f (old name) else old name) (subst (λ c. is_caller (Client client) c ≡ true) (sym is ∙ viewed) (same_self client))

  -- by another client
  by_other : (client : List ℕ) → is_caller (Client client) viewer ≡ false → Agrees viewer opening changes now → IsPossible (now.zones client) (Client client) effect
      → Agrees viewer opening changes (tables_after (Client client) effect (record { number = (now.last (Client client)).number + 1; reply = text }) now)
  by_other client apart agrees possible = record {
    content = agrees.content ∙ sym (same_content effect possible);
    publisher = agrees.publisher;
    own = agrees.own ∙ sym (ap (λ (b : Bool). if b then record { number = (now.last (Client client)).number + 1; reply = text } else now.last viewer) apart);
    zones = λ name is. agrees.zones name is ∙ sym (ap (λ (b : Bool). if b then zones_after effect (now.zones name) else now.zones name) (subst (λ c. is_caller (Client client) c ≡ false) is apart));
    received = λ name is. agrees.received name is ∙ sym (ap (λ (b : Bool). if b then received_after effect (now.received name) else now.received name) (subst (λ c. is_caller (Client client) c ≡ false) is apart));
    kept = agrees.kept;
  }
    where
      same_content : (e : Effect) → IsPossible (now.zones client) (Client client) e → content_after e now.content ≡ now.content
      same_content (publication more) h = absurd h
      same_content (zone_put name rows) h = refl
      same_content (zone_dropped name) h = refl
      same_content (received_put ids) h = refl
      same_content (patterns_put name patterns) h = refl

-- a call of the publisher or the viewer that comes to a change
by_own : (viewer : Caller) (opening : Opening) (changes : List Accepted) (now : Tables) (effect : Effect) (text : List ℕ) (caller : Caller) → IsOwn viewer caller
    → Agrees viewer opening changes now → IsPossible (view_of caller now).zones caller effect
    → Agrees viewer opening (record { caller = caller; effect = effect; reply = text } ∷ changes) (tables_after caller effect (record { number = (now.last caller).number + 1; reply = text }) now)
by_own viewer opening changes now effect text Publisher is agrees possible = by_publisher viewer opening changes now effect text agrees possible
by_own viewer opening changes now effect text (Client client) is agrees possible = by_client viewer opening changes now effect text client (the_viewer viewer client is) agrees possible

-- ---- one call

-- who is neither the publisher nor the viewer is another client
who : (viewer caller : Caller) (b : Bool) → (is_caller caller Publisher || is_caller caller viewer) ≡ b → cond b (IsOwn viewer caller) ((client : List ℕ) × (caller ≡ Client client) × (is_caller (Client client) viewer ≡ false))
who viewer Publisher true is = inl refl
who viewer Publisher false is = cc
who viewer (Client client) true is = inr (same_caller (Client client) viewer is)
who viewer (Client client) false is = (client, refl, is)

pub view_caller : (caller : Caller) (tables : Tables) → (view_of caller tables).caller ≡ caller
view_caller Publisher tables = refl
view_caller (Client name) tables = refl

-- the own history with one more call
abbrev pub with_call : Caller → CallBy → List Asked → List Asked
with_call viewer call_by history = if is_own viewer call_by then asked_in call_by ∷ history else history

-- the status of an answer is 503 just where there was no room
module _ (viewer : Caller) (opening : Opening) (history : List Asked) (now : Tables) (call_by : CallBy) (new : Tables) where
  without_room : call_by.answer ≡ no_room → with_call viewer call_by history ≡ history
  without_room is = ap (λ (answer : Answer). if (is_caller call_by.caller Publisher || is_caller call_by.caller viewer) && not (answer.status == 503) then asked_in call_by ∷ history else history) is ∙ neither (is_caller call_by.caller Publisher || is_caller call_by.caller viewer)
    where
      neither : (b : Bool) → (if b && false then asked_in call_by ∷ history else history) ≡ history
      neither true = refl
      neither false = refl

  -- what comes of the call
  abbrev found : Outcome
  found = outcome (view_of call_by.caller now) call_by.call

  is_proper : IsProper (view_of call_by.caller now).zones call_by.caller found
  is_proper = proper (view_of call_by.caller now) call_by.call call_by.caller (view_caller call_by.caller now)

  told : (o : Outcome) → IsProper (view_of call_by.caller now).zones call_by.caller o → ((answer_of o).status == 503) ≡ false
  told (answered answer) h = h
  told (accepted effect text) h = refl

  with_room : call_by.answer ≡ answer_of found → with_call viewer call_by history ≡ (if (is_caller call_by.caller Publisher || is_caller call_by.caller viewer) then asked_in call_by ∷ history else history)
  with_room is =
      ap (λ (b : Bool). if (is_caller call_by.caller Publisher || is_caller call_by.caller viewer) && not b then asked_in call_by ∷ history else history) (ap (λ (answer : Answer). answer.status == 503) is ∙ told found is_proper)
      ∙ both (is_caller call_by.caller Publisher || is_caller call_by.caller viewer)
    where
      both : (b : Bool) → (if b && true then asked_in call_by ∷ history else history) ≡ (if b then asked_in call_by ∷ history else history)
      both true = refl
      both false = refl

  own_call : IsOwn viewer call_by.caller → Agrees viewer opening (accepted_in opening history) now
      → Agrees viewer opening (accepted_in opening (asked_in call_by ∷ history)) (tables_left call_by.caller found now)
  own_call is agrees =
      subst (λ o. Agrees viewer opening (change_of call_by.caller o ++ accepted_in opening history) (tables_left call_by.caller found now))
      (ap (λ view. outcome view call_by.call) (sym (view_agrees viewer opening (accepted_in opening history) now call_by.caller agrees is)))
      (by found is_proper)
    where
      by : (o : Outcome) → IsProper (view_of call_by.caller now).zones call_by.caller o → Agrees viewer opening (change_of call_by.caller o ++ accepted_in opening history) (tables_left call_by.caller o now)
      by (answered answer) h = agrees
      by (accepted effect text) h = by_own viewer opening (accepted_in opening history) now effect text call_by.caller is agrees h

  other_call : (client : List ℕ) → call_by.caller ≡ Client client → is_caller (Client client) viewer ≡ false → Agrees viewer opening (accepted_in opening history) now
      → Agrees viewer opening (accepted_in opening history) (tables_left call_by.caller found now)
  other_call client is apart agrees = by found is_proper
    where
      by : (o : Outcome) → IsProper (view_of call_by.caller now).zones call_by.caller o → Agrees viewer opening (accepted_in opening history) (tables_left call_by.caller o now)
      by (answered answer) h = agrees
      by (accepted effect text) h =
          subst (λ c. Agrees viewer opening (accepted_in opening history) (tables_after c effect (record { number = (now.last c).number + 1; reply = text }) now)) (sym is)
          (by_other viewer opening (accepted_in opening history) now effect text client apart agrees (subst (λ c. IsPossible (view_of c now).zones c effect) is h))

  pub call_agrees : IsStep now call_by new → Agrees viewer opening (accepted_in opening history) now → Agrees viewer opening (accepted_in opening (with_call viewer call_by history)) new
  call_agrees (inl refused) agrees =
      subst (λ h. Agrees viewer opening (accepted_in opening h) new) (sym (without_room refused.0))
      (subst (λ tables. Agrees viewer opening (accepted_in opening history) tables) (sym refused.1) agrees)
  call_agrees (inr taken) agrees =
      subst (λ h. Agrees viewer opening (accepted_in opening h) new) (sym (with_room taken.0))
      (subst (λ tables. Agrees viewer opening (accepted_in opening (if (is_caller call_by.caller Publisher || is_caller call_by.caller viewer) then asked_in call_by ∷ history else history)) tables) (sym taken.1)
      (by (is_caller call_by.caller Publisher || is_caller call_by.caller viewer) refl))
    where
      by : (b : Bool) → (is_caller call_by.caller Publisher || is_caller call_by.caller viewer) ≡ b → Agrees viewer opening (accepted_in opening (if b then asked_in call_by ∷ history else history)) (tables_left call_by.caller found now)
      by true is = own_call (who viewer call_by.caller true is) agrees
      by false is = other_call (who viewer call_by.caller false is).0 (who viewer call_by.caller false is).1 (who viewer call_by.caller false is).2 agrees

  -- the viewer is told what the own answer says, or that there is no room
  pub call_alone : IsStep now call_by new → call_by.caller ≡ viewer → Agrees viewer opening (accepted_in opening history) now
      → (call_by.answer ≡ no_room) ⊎ (call_by.answer ≡ own_answer opening history viewer call_by.call)
  call_alone (inl refused) is agrees = inl refused.0
  call_alone (inr taken) is agrees =
      inr (taken.0 ∙ ap (λ c. answer_of (outcome (view_of c now) call_by.call)) is
      ∙ ap (λ view. answer_of (outcome view call_by.call)) (sym (view_agrees viewer opening (accepted_in opening history) now viewer agrees (inr refl))))

-- ---- a run

-- what a run has reached before a call: the tables there, which agree with the own history, and one step
pub record Reached (viewer : Caller) (opening : Opening) (history : List Asked) (call_by : CallBy) : Type 0 where
  pub now : Tables
  pub next : Tables
  pub agrees : Agrees viewer opening (accepted_in opening history) now
  pub step : IsStep now call_by next

-- the history that some calls leave
abbrev pub history_after : Caller → List CallBy → List Asked → List Asked
history_after viewer before history = map asked_in (filter (is_own viewer) (reverse before)) ++ history

pub history_more : (viewer : Caller) (call_by : CallBy) (calls : List CallBy) (history : List Asked) → history_after viewer calls (with_call viewer call_by history) ≡ history_after viewer (call_by ∷ calls) history
history_more viewer call_by calls history =
    by (is_own viewer call_by)
    ∙ ap (λ asked. asked ++ history) (sym (map-append asked_in (filter (is_own viewer) (reverse calls)) (filter (is_own viewer) (call_by ∷ []))))
    ∙ ap (λ kept. map asked_in kept ++ history) (sym (filter-append (is_own viewer) (reverse calls) (call_by ∷ [])))
    ∙ ap (λ calls. map asked_in (filter (is_own viewer) calls) ++ history) (sym (reverse-append (call_by ∷ []) calls))
  where
    by : (b : Bool) → map asked_in (filter (is_own viewer) (reverse calls)) ++ (if b then asked_in call_by ∷ history else history) ≡ (map asked_in (filter (is_own viewer) (reverse calls)) ++ map asked_in (cond b (call_by ∷ []) [])) ++ history
    by true = sym (append_assoc (map asked_in (filter (is_own viewer) (reverse calls))) (asked_in call_by ∷ []) history)
    by false = sym (append_assoc (map asked_in (filter (is_own viewer) (reverse calls))) [] history)

reached_in : (viewer : Caller) (opening : Opening) (before : List CallBy) (history : List Asked) (now closing : Tables) (call_by : CallBy) (after : List CallBy)
    → Agrees viewer opening (accepted_in opening history) now → IsRun now (before ++ call_by ∷ after) closing → Reached viewer opening (history_after viewer before history) call_by
reached_in viewer opening [] history now closing call_by after agrees run = record { now = now; next = run.0; agrees = agrees; step = run.1 }
reached_in viewer opening (first ∷ before) history now closing call_by after agrees run =
    subst (λ h. Reached viewer opening h call_by) (history_more viewer first before history)
    (reached_in viewer opening before (with_call viewer first history) run.0 closing call_by after (call_agrees viewer opening history now first run.0 run.1 agrees) run.2)

-- ---- the opening

-- what isn't among the names of entries has none
none_named : (name : List ℕ) (zones : Zones) → list_any (bytes_eq name) (keys_of zones) ≡ false → zone_named name zones ≡ None
none_named name [] h = refl
none_named name (entry ∷ zones) h = by (bytes_eq name entry.0) h (λ g. none_named name zones g)
  where
    by : (b : Bool) → (b || list_any (bytes_eq name) (keys_of zones)) ≡ false → (list_any (bytes_eq name) (keys_of zones) ≡ false → zone_named name zones ≡ None) → cond b (Some entry.1) (zone_named name zones) ≡ None
    by true g rest = cc
    by false g rest = rest g

again : (o : Option ZoneTable) → option_map (λ rows. record { rows = rows; patterns = patterns_of o }) (option_map (λ table. table.rows) o) ≡ o
again None = refl
again (Some table) = refl

bare : (o : Option ZoneTable) → option_map (λ table. table.rows) o ≡ None → patterns_of o ≡ []
bare None h = refl
bare (Some table) h = cc

kept_at_first : (opening : Opening) → IsStrictlySortedBy name_order (keys_of opening.zones) → AreKept opening []
kept_at_first opening sorted = record {
  sorted = sorted;
  unknown = λ name h. ap (λ (o : Option ZoneTable). option_map (λ table. table.rows) o) (none_named name opening.zones h);
  bare = λ name h. bare (zone_named name opening.zones) h;
}

zones_at_first : (opening : Opening) → IsStrictlySortedBy name_order (keys_of opening.zones) → zones_left opening [] ≡ opening.zones
zones_at_first opening sorted =
    found_same (λ name. zone_named name opening.zones) (zone_left opening []) (keys_of opening.zones) (λ name. again (zone_named name opening.zones))
    ∙ found_again opening.zones sorted

none_added : (l : LastChange) → ◌≡◌ {A = LastChange} (record { number = l.number + 0; reply = l.reply }) l
none_added l = ap (λ n. record { number = n; reply = l.reply }) (add-zero l.number)

sorted_none : IsStrictlySortedBy name_order []
unfolding IsStrictlySortedBy
sorted_none = tt

pub agrees_at_first : (viewer : Caller) (tables : Tables) → AreInOrder tables → Agrees viewer (opening_of viewer tables) [] tables
agrees_at_first Publisher tables ordered = record {
  content = after_none tables.content ordered.content;
  publisher = none_added (tables.last Publisher);
  own = none_added (tables.last Publisher);
  zones = λ name is. cc;
  received = λ name is. cc;
  kept = kept_at_first (opening_of Publisher tables) sorted_none;
}
agrees_at_first (Client client) tables ordered = record {
  content = after_none tables.content ordered.content;
  publisher = none_added (tables.last Publisher);
  own = none_added (tables.last (Client client));
  zones = λ name is. zones_at_first (opening_of (Client client) tables) (ordered.zones client) ∙ ap tables.zones (same client name is);
  received = λ name is. ap tables.received (same client name is);
  kept = kept_at_first (opening_of (Client client) tables) (ordered.zones client);
}
  where
    same : (a b : List ℕ) → Client a ≡ Client b → a ≡ b
    same a b is = cc

-- ---- the headline

pub alone : (opening closing : Tables) (calls : List CallBy) (viewer : Caller) → AreInOrder opening → IsRun opening calls closing → IsAlone viewer (opening_of viewer opening) calls
alone opening closing calls viewer ordered run before call_by after is caller =
    let reached = reached_in viewer (opening_of viewer opening) before [] opening closing call_by after (agrees_at_first viewer opening ordered) (subst (λ ts. IsRun opening ts closing) is run) in
    let agreed = call_alone viewer (opening_of viewer opening) (history_after viewer before []) reached.now call_by reached.next reached.step caller reached.agrees in
    subst (λ h. (call_by.answer ≡ no_room) ⊎ (call_by.answer ≡ own_answer (opening_of viewer opening) h viewer call_by.call)) (append-nil (own_history viewer before)) agreed

pub alike : (opening closing opening2 closing2 : Tables) (calls calls2 : List CallBy) (viewer : Caller) → AreInOrder opening → AreInOrder opening2 → IsRun opening calls closing → IsRun opening2 calls2 closing2
    → opening_of viewer opening ≡ opening_of viewer opening2 → AreAnsweredAlike viewer calls calls2
alike opening closing opening2 closing2 calls calls2 viewer ordered ordered2 run run2 same before call_by after before2 call_by2 after2 is is2 caller caller2 call history =
    by (alone opening closing calls viewer ordered run before call_by after is caller) (alone opening2 closing2 calls2 viewer ordered2 run2 before2 call_by2 after2 is2 caller2)
  where
    by : (call_by.answer ≡ no_room) ⊎ (call_by.answer ≡ own_answer (opening_of viewer opening) (own_history viewer before) viewer call_by.call)
        → (call_by2.answer ≡ no_room) ⊎ (call_by2.answer ≡ own_answer (opening_of viewer opening2) (own_history viewer before2) viewer call_by2.call)
        → (call_by.answer ≡ no_room) ⊎ ((call_by2.answer ≡ no_room) ⊎ (call_by.answer ≡ call_by2.answer))
    by (inl none) second = inl none
    by (inr first) (inl none) = inr (inl none)
    by (inr first) (inr second) =
        inr (inr (first ∙ ap (λ o. own_answer o (own_history viewer before) viewer call_by.call) same ∙ ap (λ h. own_answer (opening_of viewer opening2) h viewer call_by.call) history ∙ ap (λ c. own_answer (opening_of viewer opening2) (own_history viewer before2) viewer c) call ∙ sym second))
