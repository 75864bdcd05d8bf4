-- What all connections hold together.
use Rattle.std.proofs.Common.{◌≡◌, ℕ, zero, suc, ◌+◌, ◌*◌, ◌<◌, ◌≤◌, Bool, true, false, List, [], ◌∷◌, ◌++◌, length, get_or, Option, Some, None, slice_get, slice_set, refl, sym, ap, ◌∙◌, subst, arith, length-append}
use Rattle.std.proofs.Math.ListN.{length-set, replicate}
use Rattle.std.proofs.lemmas.List.Sums.{sum_by-cons}
use Rattle.std.specs.List.{sum}
use Rattle.connections.specs.Items.{Event, Grows, IsEnded, Moves, Sends, Slots, came, bytes, wrote, ended, failed, late, fresh}
use Rattle.connections.specs.Memory.{AreWithin, HasRoom, IsReplyCounted, IsWithin, Needs, ReadsOn, StaysWithin, held_by, held_in}
use Rattle.connections.specs.Replies.{IsCounted, kept_of}
use Rattle.connections.specs.Shares.{Shared}
use Rattle.connections.specs.Turns.{IsToldOf, Misses, Occurs, out_at}
use Rattle.connections.specs.declared.connection.Connection.{Connection}
use Rattle.connections.specs.declared.connection.Phase.TheVariants.{Open}
use Rattle.connections.specs.declared.event.Told.{Told}
use Rattle.connections.specs.declared.event.Told.TheVariants.{Done, Missed, Stray}
use Rattle.connections.specs.declared.slots.Connections.{Connections}
use Rattle.connections.proofs.SlotFacts.{set_again}

-- ---- one slot and its share

get_within : (t : Slots) (shares : List ℕ) (slot : ℕ) (o : Option Connection) → AreWithin t shares → slice_get t slot ≡ Some o
    → held_in o ≤ 16384 + get_or shares slot 0
get_within [] shares slot o h e = absurd (cc)
get_within (x ∷ t) [] slot o h e = absurd h
get_within (x ∷ t) (share ∷ shares) zero o h e = let same : x ≡ o = cc in subst (λ v. held_in v ≤ 16384 + share) same h.0
get_within (x ∷ t) (share ∷ shares) (suc slot) o h e = get_within t shares slot o h.1 e

set_within : (t : Slots) (shares : List ℕ) (slot : ℕ) (o : Option Connection) → AreWithin t shares → held_in o ≤ 16384 + get_or shares slot 0
    → AreWithin (slice_set t slot o) shares
set_within [] shares slot o h low = h
set_within (x ∷ t) [] slot o h low = absurd h
set_within (x ∷ t) (share ∷ shares) zero o h low = (low, h.1)
set_within (x ∷ t) (share ∷ shares) (suc slot) o h low = (h.0, set_within t shares slot o h.1 low)

give_within : (t : Slots) (shares : List ℕ) (slot share : ℕ) → AreWithin t shares → Needs share (slice_get t slot) → AreWithin t (slice_set shares slot share)
give_within [] [] slot share h needs = tt
give_within [] (old ∷ shares) slot share h needs = absurd h
give_within (x ∷ t) [] slot share h needs = absurd h
give_within (x ∷ t) (old ∷ shares) zero share h needs = (needs, h.1)
give_within (x ∷ t) (old ∷ shares) (suc slot) share h needs = (h.0, give_within t shares slot share h.1 needs)

abbrev nobody : Option Connection
nobody = None

free_within : (n : ℕ) → AreWithin (replicate n nobody) (replicate n 0)
free_within zero = tt
free_within (suc n) = (omega arith, free_within n)

pub new_within : (t : Slots) (shares : Shared) (limit n : ℕ) → t ≡ replicate n None → shares ≡ record { limit = limit; given = replicate n 0 }
    → AreWithin t shares.given
new_within t shares limit n is are =
    subst (λ l. AreWithin l shares.given) (sym is) (subst (λ (s : Shared). AreWithin (replicate n nobody) s.given) (sym are) (free_within n))

-- ---- all of them

sum_within : (t : Slots) (shares : List ℕ) → AreWithin t shares → held_by t ≤ sum shares + 16384 * length t
sum_within [] shares h = omega arith
sum_within (x ∷ t) [] h = absurd h
sum_within (x ∷ t) (share ∷ shares) h =
    let rest = sum_within t shares h.1 in
    let first = h.0 in
    let all = sum_by-cons held_in x t in
    let given = sum_by-cons (λ n. n) share shares in
    omega (arith, rest, first, all, given)

pub memory : (old new : Connections) → StaysWithin old new → sum new.shares.given ≤ new.shares.limit → IsWithin old
    → held_by new.slots.items ≤ old.shares.limit + 16384 * length old.slots.items
memory old new stays low within =
    let all = sum_within new.slots.items new.shares.given (stays.within within) in
    let limit = stays.limit in
    let same : length new.slots.items ≡ length old.slots.items = stays.count in
    let parts : 16384 * length new.slots.items ≡ 16384 * length old.slots.items = ap (λ n. 16384 * n) same in
    omega (arith, all, limit, parts, low)

-- ---- from one table to the next

pub stays_same : (old new : Connections) → new.slots.items ≡ old.slots.items → new.shares ≡ old.shares → StaysWithin old new
stays_same old new slots shares = record {
  limit = ap (λ (s : Shared). s.limit) shares;
  count = ap length slots;
  within = λ h. subst (λ l. AreWithin l new.shares.given) (sym slots) (subst (λ (s : Shared). AreWithin old.slots.items s.given) (sym shares) h);
}

pub stays_on : (old between new : Connections) → StaysWithin old between → StaysWithin between new → StaysWithin old new
stays_on old between new first next = record {
  limit = next.limit ∙ first.limit;
  count = next.count ∙ first.count;
  within = λ h. next.within (first.within h);
}

-- this stands in a slot now
pub stays_set : (old new : Connections) (slot : ℕ) (o : Option Connection) → new.slots.items ≡ slice_set old.slots.items slot o → new.shares ≡ old.shares
    → (IsWithin old → held_in o ≤ 16384 + get_or old.shares.given slot 0) → StaysWithin old new
stays_set old new slot o is shares low = record {
  limit = ap (λ (s : Shared). s.limit) shares;
  count = ap length is ∙ length-set old.slots.items slot o;
  within = λ h. subst (λ l. AreWithin l new.shares.given) (sym is)
      (subst (λ (s : Shared). AreWithin (slice_set old.slots.items slot o) s.given) (sym shares) (set_within old.slots.items old.shares.given slot o h (low h)));
}

-- a connection left its slot
pub stays_left : (old new : Connections) (slot : ℕ) → new.slots.items ≡ slice_set old.slots.items slot None → new.shares ≡ old.shares → StaysWithin old new
stays_left old new slot is shares = stays_set old new slot None is shares (λ h. omega arith)

-- a connection was taken out of its slot, and another one was put there
module _ (old mid new : Connections) (slot : ℕ) (a b : Connection) (at : slice_get old.slots.items slot ≡ Some (Some a))
    (out : mid.slots.items ≡ slice_set old.slots.items slot None) (into : new.slots.items ≡ slice_set mid.slots.items slot (Some b))
    (taken : mid.shares ≡ old.shares) (put : new.shares ≡ mid.shares) where
  put_into : new.slots.items ≡ slice_set old.slots.items slot (Some b)
  put_into = into ∙ ap (λ l. slice_set l slot (Some b)) out ∙ set_again old.slots.items slot None (Some b)

  -- which holds no more
  pub stays_fewer : length b.held ≤ length a.held → StaysWithin old new
  stays_fewer fewer = stays_set old new slot (Some b) put_into (put ∙ taken) (λ h.
      let low : length a.held ≤ 16384 + get_or old.shares.given slot 0 = get_within old.slots.items old.shares.given slot (Some a) h at in omega (arith, low, fewer))

  -- which holds what fits
  pub stays_fit : length b.held ≤ 16384 + get_or old.shares.given slot 0 → StaysWithin old new
  stays_fit low = stays_set old new slot (Some b) put_into (put ∙ taken) (λ h. low)

-- a slot got another share
pub stays_given : (old new : Connections) (slot share : ℕ) → new.slots.items ≡ old.slots.items
    → new.shares ≡ record { limit = old.shares.limit; given = slice_set old.shares.given slot share } → (IsWithin old → Needs share (slice_get old.slots.items slot))
    → StaysWithin old new
stays_given old new slot share slots shares needs = record {
  limit = ap (λ (s : Shared). s.limit) shares;
  count = ap length slots;
  within = λ h. subst (λ l. AreWithin l new.shares.given) (sym slots) (subst (λ (s : Shared). AreWithin old.slots.items s.given) (sym shares)
      (give_within old.slots.items old.shares.given slot share h (needs h)));
}

-- a slot asked for another share
pub stays_gave : (old new : Connections) (slot share : ℕ) (gave : Bool) → new.slots.items ≡ old.slots.items
    → (gave ≡ true → new.shares ≡ record { limit = old.shares.limit; given = slice_set old.shares.given slot share }) → (gave ≡ false → new.shares ≡ old.shares)
    → (IsWithin old → Needs share (slice_get old.slots.items slot)) → StaysWithin old new
stays_gave old new slot share true slots given kept needs = stays_given old new slot share slots (given refl) needs
stays_gave old new slot share false slots given kept needs = stays_same old new slots (kept refl)

needs_by : (t : Slots) (shares : List ℕ) (slot share : ℕ) (o : Option (Option Connection)) → slice_get t slot ≡ o → AreWithin t shares → get_or shares slot 0 ≤ share
    → Needs share o
needs_by t shares slot share None e h low = tt
needs_by t shares slot share (Some x) e h low = let held : held_in x ≤ 16384 + get_or shares slot 0 = get_within t shares slot x h e in omega (arith, held, low)

-- what fits a share fits a larger one
pub needs_more : (t : Slots) (shares : List ℕ) (slot share : ℕ) → AreWithin t shares → get_or shares slot 0 ≤ share → Needs share (slice_get t slot)
needs_more t shares slot share h low = needs_by t shares slot share (slice_get t slot) refl h low

-- ---- replies

-- the reply was counted after a step that counts none
pub reply_counted : (slot other : ℕ) (old mid new : Connections) → mid.replies ≡ old.replies → slot ≡ other → IsReplyCounted slot mid new → IsReplyCounted other old new
reply_counted slot other old mid new same is counted =
    subst (λ n. IsReplyCounted n old new) is (subst (λ l. IsCounted slot (kept_of (get_or l slot 0) (out_at (slice_get new.slots.items slot))) l new.replies) same counted)

-- ---- room for more

pub no_room : (given : List ℕ) (slot : ℕ) (o : Option (Option Connection)) → HasRoom 0 given slot o
no_room given slot None = refl
no_room given slot (Some None) = refl
no_room given slot (Some (Some connection)) = λ some. absurd (omega arith)

pub has_room : (room : ℕ) (given : List ℕ) (slot : ℕ) (o : Option (Option Connection)) (connection : Connection) → o ≡ Some (Some connection)
    → connection.out ≡ [] → connection.phase ≡ Open → (0 < room → length connection.held + room ≤ 16384 + get_or given slot 0) → HasRoom room given slot o
has_room room given slot o connection e out phase low = subst (HasRoom room given slot) (sym e) (λ some. (out, phase, low some))

-- a connection that reads on has the room that is left
pub reads_room : (room held : ℕ) (given : List ℕ) (slot : ℕ) (old new : Slots) → new ≡ old → ReadsOn held (slice_get old slot)
    → (0 < room → held + room ≤ 16384 + get_or given slot 0) → HasRoom room given slot (slice_get new slot)
reads_room room held given slot old new same (connection, at, out, phase, len) low =
    has_room room given slot (slice_get new slot) connection (ap (λ l. slice_get l slot) same ∙ at) out phase (λ some. let fits = low some in omega (arith, fits, len))

-- ---- after an event that brings no bytes

abbrev pub BringsNone : Event → Type 0
BringsNone (came slot) = Unit {0}
BringsNone (bytes slot text) = ⊥
BringsNone (wrote slot count) = Unit {0}
BringsNone (ended slot) = Unit {0}
BringsNone (failed slot) = Unit {0}
BringsNone (late slot) = Unit {0}

-- a connection that holds what it held
moved_same : (old new : Connections) (slot : ℕ) (Turn : Connection → Connection → Type 0) (m : Moves old.slots.items slot new.slots.items Turn)
    → new.shares ≡ old.shares → length m.after.held ≡ length m.before.held → StaysWithin old new
moved_same old new slot Turn m shares same = stays_set old new slot (Some m.after) m.new_is shares (λ h.
    let low : length m.before.held ≤ 16384 + get_or old.shares.given slot 0 = get_within old.slots.items old.shares.given slot (Some m.before) h m.at in
    omega (arith, low, same))

occurs_stays : (old new : Connections) (event : Event) → Occurs old.slots.items event new.slots.items → new.shares ≡ old.shares → BringsNone event → StaysWithin old new
occurs_stays old new (came slot) h shares none = stays_set old new slot (Some fresh) h.1 shares (λ w. omega arith)
occurs_stays old new (bytes slot text) h shares none = absurd none
occurs_stays old new (wrote slot count) h shares none = moved_same old new slot (Sends h.0) h.2 shares (ap (λ (c : Connection). length c.held) h.2.turn.2)
occurs_stays old new (ended slot) h shares none = moved_same old new slot IsEnded h shares (ap (λ (c : Connection). length c.held) h.turn.1)
occurs_stays old new (failed slot) h shares none = stays_left old new slot h.new_is shares
occurs_stays old new (late slot) h shares none = stays_left old new slot h.new_is shares

missed_stays : (old new : Connections) (event : Event) → Misses old.slots.items event new.slots.items → BringsNone event → StaysWithin old new
missed_stays old new (came slot) h none = absurd h
missed_stays old new (bytes slot text) h none = absurd none
missed_stays old new (wrote slot count) h none = absurd h
missed_stays old new (ended slot) h none = absurd h
missed_stays old new (failed slot) h none = absurd h
missed_stays old new (late slot) h none = absurd h

pub told_stays : (told : Told) (old new : Connections) (event : Event) → IsToldOf told old.slots.items event new.slots.items → new.shares ≡ old.shares
    → BringsNone event → StaysWithin old new
told_stays Done old new event h shares none = occurs_stays old new event h shares none
told_stays Missed old new event h shares none = missed_stays old new event h none
told_stays Stray old new event h shares none = stays_same old new h.1 shares

-- ---- bytes that came

-- bytes that fit were added to what is held
pub fit_in : (a b : Connection) (text : List ℕ) (most : ℕ) → Grows text a b → length a.held + length text ≤ most → length b.held ≤ most
fit_in a b text most grows low =
    let held : length b.held ≡ length (a.held ++ text) = ap (λ (c : Connection). length c.held) grows.1 in
    let count = length-append a.held text in
    omega (arith, low, held, count)

-- none came
pub none_in : (a b : Connection) (text : List ℕ) → Grows text a b → length text ≡ 0 → length b.held ≤ length a.held
none_in a b text grows none =
    let held : length b.held ≡ length (a.held ++ text) = ap (λ (c : Connection). length c.held) grows.1 in
    let count = length-append a.held text in
    omega (arith, none, held, count)
