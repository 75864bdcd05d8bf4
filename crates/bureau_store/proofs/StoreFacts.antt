-- What a store in lists tells, and what its changes make.
use Rattle.std.proofs.Common.{◌≡◌, ℕ, ◌∙◌, List, inl, inr, refl, sym, ap, subst, arith, if◌then◌else◌}
use Rattle.std.specs.Prelude.{Result, Ok, Err, IfErr, OnErr, OnOk}
use Rattle.std.specs.List.Sorted.{IsStrictlySortedBy}
use Rattle.std.specs.Map.{keys_of}
use Rattle.std.specs.Str.{bytes_eq}
use Rattle.std.proofs.Math.Path.{fun_ext}
use Rattle.std.proofs.lemmas.Bool.{cases_Bool as tested}
use Rattle.catalogue.specs.Content as catalogue
use Rattle.catalogue.specs.Content.{Content}
use Rattle.catalogue.specs.Publication.{after}
use Rattle.catalogue.proofs.SourceFacts.{no_fault}
use Rattle.catalogue.specs.declared.change.Change.{Change}
use Rattle.bureau_store.specs.Caller.{is_caller}
use Rattle.bureau_store.specs.Effect.{Effect, content_after, publication, received_after, tables_after, zones_after}
use Rattle.bureau_store.specs.Lists.{ClientTable, IsOurs, Lists, NeverOutgrown, client_after, client_in, last_in, lists_view, tables_of}
use Rattle.bureau_store.specs.Store.{Makes, Update, updated}
use Rattle.bureau_store.specs.Tables.{AreInOrder, LastChange, Tables, name_order}
use Rattle.bureau_store.specs.declared.caller.Caller.{Caller}
use Rattle.bureau_store.specs.declared.caller.Caller.TheVariants.{Publisher, Client}
use Rattle.bureau_store.specs.declared.fault.StoreFault.{StoreFault}
use Rattle.bureau_store.specs.declared.fault.StoreFault.TheVariants.{Memory, Device, Size}

-- tables are those of which each part is the same
pub same_tables : (a b : Tables) → a.callers ≡ b.callers → a.content ≡ b.content → ((caller : Caller) → a.last caller ≡ b.last caller)
    → ((name : List ℕ) → a.zones name ≡ b.zones name) → ((name : List ℕ) → a.received name ≡ b.received name) → a ≡ b
same_tables a b callers content last zones received =
    let lasts = fun_ext last in
    let zoned = fun_ext zones in
    let had = fun_ext received in
    λ i. record { callers = callers i; content = content i; last = lasts i; zones = zoned i; received = had i }

-- ---- what a client's change makes

-- of a client, and of another
part_after : {A : Type 0} (part : ClientTable → A) (change : A → A) (client name : List ℕ) (old new : ClientTable) (table : ClientTable)
    → new ≡ (if bytes_eq client name then table else old) → part table ≡ change (part old) → part new ≡ (if bytes_eq client name then change (part old) else part old)
part_after part change client name old new table is made =
    elim (tested (bytes_eq client name)) [
      | inl same ↦ rw same (ap part (is ∙ rw same refl) ∙ made)
      | inr other ↦ rw other (ap part (is ∙ rw other refl))
    ]

last_after : (client name : List ℕ) (old new table : ClientTable) (last : LastChange)
    → new ≡ (if bytes_eq client name then table else old) → table.last ≡ last → new.last ≡ (if bytes_eq client name then last else old.last)
last_after client name old new table last is made = part_after (λ t. t.last) (λ _. last) client name old new table is made

-- a client's effect, which is no publication
pub client_made : (client : List ℕ) (effect : Effect) (last : LastChange) (old new : Lists) → ((content : Content) → content_after effect content ≡ content)
    → new.callers ≡ old.callers → new.content ≡ old.content → new.publisher ≡ old.publisher
    → ((name : List ℕ) → client_in new.clients name ≡ (if bytes_eq client name then client_after effect last (client_in old.clients name) else client_in old.clients name))
    → tables_of new ≡ tables_after (Client client) effect last (tables_of old)
client_made client effect last old new private callers content publisher clients =
    same_tables (tables_of new) (tables_after (Client client) effect last (tables_of old)) callers (content ∙ sym (private old.content)) lasts (
    λ name. part_after (λ t. t.zones) (zones_after effect) client name (client_in old.clients name) (client_in new.clients name) _ (clients name) refl
    ) (
    λ name. part_after (λ t. t.received) (received_after effect) client name (client_in old.clients name) (client_in new.clients name) _ (clients name) refl
    )
  where
    lasts : (caller : Caller) → last_in new caller ≡ (if is_caller (Client client) caller then last else last_in old caller)
    lasts Publisher = publisher
    lasts (Client name) = last_after client name (client_in old.clients name) (client_in new.clients name) _ last (clients name) refl

-- nothing changed
pub client_kept : (old new : Lists) → new.callers ≡ old.callers → new.content ≡ old.content → new.publisher ≡ old.publisher
    → ((name : List ℕ) → client_in new.clients name ≡ client_in old.clients name) → tables_of new ≡ tables_of old
client_kept old new callers content publisher clients =
    same_tables (tables_of new) (tables_of old) callers content lasts (λ name. ap (λ t. t.zones) (clients name)) (λ name. ap (λ t. t.received) (clients name))
  where
    lasts : (caller : Caller) → last_in new caller ≡ last_in old caller
    lasts Publisher = publisher
    lasts (Client name) = ap (λ t. t.last) (clients name)

-- what is in order stays so
pub client_ordered : (old new : Lists) → new.content ≡ old.content
    → ((name : List ℕ) → IsStrictlySortedBy name_order (keys_of (client_in old.clients name).zones) → IsStrictlySortedBy name_order (keys_of (client_in new.clients name).zones))
    → AreInOrder (tables_of old) → AreInOrder (tables_of new)
client_ordered old new content zones ordered = record {
  content = rw content ordered.content;
  zones = λ name. zones name (ordered.zones name);
}

-- a publication
pub publication_made : (changes : List Change) (last : LastChange) (old new : Lists)
    → new.callers ≡ old.callers → new.content ≡ after old.content changes → new.publisher ≡ last → new.clients ≡ old.clients
    → tables_of new ≡ tables_after Publisher (publication changes) last (tables_of old)
publication_made changes last old new callers content publisher clients =
    same_tables (tables_of new) (tables_after Publisher (publication changes) last (tables_of old)) callers content lasts (
    λ name. ap (λ cs. (client_in cs name).zones) clients
    ) (λ name. ap (λ cs. (client_in cs name).received) clients)
  where
    lasts : (caller : Caller) → last_in new caller ≡ (if is_caller Publisher caller then last else last_in old caller)
    lasts Publisher = publisher
    lasts (Client name) = ap (λ cs. (client_in cs name).last) clients

pub publication_ordered : (old new : Lists) → catalogue.IsInOrder new.content → new.clients ≡ old.clients → AreInOrder (tables_of old) → AreInOrder (tables_of new)
publication_ordered old new content clients ordered = record {
  content = content;
  zones = λ name. rw clients (ordered.zones name);
}

-- ---- what lists make, as a store makes it

-- want of memory is told neither for the device nor for its size
pub not_device : {A : Type 0} → ◌≡◌ {A = Result A StoreFault} (Err Memory) (Err Device) → ⊥
not_device same = cc

pub not_size : {A : Type 0} → ◌≡◌ {A = Result A StoreFault} (Err Memory) (Err Size) → ⊥
not_size same = cc

pub lists_make : {Done : Type 0} (asked : Update) (old new : Lists) (answer : Result Done StoreFault) → OnOk answer (tables_of new ≡ updated asked (tables_of old))
    → OnErr answer (tables_of new ≡ tables_of old) → IsOurs new → IfErr answer (λ fault. fault ≡ Memory) → Makes lists_view NeverOutgrown asked old new answer
lists_make asked old new (Ok done) made kept ours memory = record {
  goes = record { clean = λ h. h; ours = λ _ _. ours; failures_rise = omega arith };
  done = λ _ _ this due stands. ap (updated asked) stands ∙ sym made;
  refused = tt;
  refusal = tt;
  cause = λ fault. absurd (no_fault done fault);
  is_open = λ _. refl;
  size = λ fault. absurd (no_fault done fault);
  crash = λ _ _ this due stands left h. inr (refl, h ∙ made ∙ sym (ap (updated asked) stands));
  settled = λ _ _ _ this stands left h. h ∙ sym stands;
}
lists_make {Done = Done} asked old new (Err fault) made kept ours memory = subst (λ f. Makes lists_view {Done = Done} NeverOutgrown asked old new (Err f)) (sym memory) (record {
  goes = record { clean = λ h. h; ours = λ _ _. ours; failures_rise = omega arith };
  done = tt;
  refused = λ _ _ this stands. stands ∙ sym kept;
  refusal = tt;
  cause = λ is. absurd (not_device is);
  is_open = λ _. refl;
  size = λ is. absurd (not_size is);
  crash = λ _ _ this due stands left h. inl (h ∙ kept);
  settled = λ _ _ _ this stands left h. h ∙ sym stands;
})
