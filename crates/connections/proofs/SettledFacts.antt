-- No whole request waits, but behind a reply that has still to go out.
use Rattle.std.proofs.Common.{◌≡◌, ◌≢◌, inl, inr, ℕ, zero, suc, ◌<◌, true, List, [], ◌++◌, codes, drop, length, Option, Some, None, slice_get, slice_set, refl, sym, ap, ◌∙◌, subst, arith, length-append}
use Rattle.std.proofs.Math.ListN.{replicate}
use Rattle.std.proofs.lemmas.Bool.Decides.{eqb_tells}
use Rattle.log_lines.specs.declared.note.Note.{Note}
use Rattle.requests.specs.NextRequest.{IsUnfinished}
use Rattle.bureau_store.specs.Tables.{Tables}
use Rattle.bureau_store.specs.declared.caller.CallerRow.{CallerRow}
use Rattle.bureau.specs.Joint.{CallBy}
use Rattle.bureau_http.specs.Exchange.{Exchange, exchange_text}
use Rattle.connections.specs.Items.{Event, IsReady, Leaves, Slots, PutsWith, came, bytes, wrote, ended, failed, late, fresh, slot_of}
use Rattle.connections.specs.Turns.{AreSettled, AreSettledBut, IsSettled, Misses, Occurs, Turns, rest_of, stays}
use Rattle.connections.specs.declared.connection.Connection.{Connection}
use Rattle.connections.specs.declared.connection.Phase.{Phase}
use Rattle.connections.specs.declared.connection.Phase.TheVariants.{Open, Ended, Last}
use Rattle.connections.specs.declared.connection.Turn.{Turn}
use Rattle.connections.specs.declared.connection.Turn.TheVariants.{Waits, Answered, Lost, Starved, Finished}
use Rattle.connections.proofs.SlotFacts.{get_other, get_same, none_there, one_there}

protocol_there : (rest : List ℕ) → 0 < length (codes "HTTP/1.1 " ++ rest)
protocol_there rest =
    let all = length-append (codes "HTTP/1.1 ") rest in
    let nine : length (codes "HTTP/1.1 ") ≡ 9 = refl in
    omega arith

-- a reply has some bytes
text_there : (exchange : Exchange) → 0 < length (exchange_text exchange)
unfolding exchange_text
text_there exchange = protocol_there (drop 9 (exchange_text exchange))

put_settled : (note : Note) (rows : List CallerRow) (exchange : Exchange) (old new : Connection) → PutsWith note rows exchange old new → IsSettled new
put_settled note rows exchange old new (inl stays) = subst IsSettled (sym stays.2) (inl (text_there exchange))
put_settled note rows exchange old new (inr ends) = subst IsSettled (sym ends.1) (inl (text_there exchange))

-- ---- what else stands in the slots

-- this stands in the slot now, and the others are as they were
but_settled : (t u : Slots) (slot : ℕ) (o : Option Connection) → u ≡ slice_set t slot o → AreSettledBut slot t → AreSettledBut slot u
but_settled t u slot o is settled = λ other connection not at.
    settled other connection not (sym (ap (λ l. slice_get l other) is ∙ get_other t slot other o (λ e. not (sym e))) ∙ at)

pub all_but : (t : Slots) (slot : ℕ) → AreSettled t → AreSettledBut slot t
all_but t slot settled = λ other connection not at. settled other connection at

-- none stands there
none_settled : (u : Slots) (slot : ℕ) → slice_get u slot ≡ Some None → AreSettledBut slot u → AreSettled u
none_settled u slot none settled = λ other connection at. elim (eqb_tells other slot) [
  | inl y ↦ absurd (none_there u slot connection none (subst (λ p. slice_get u p ≡ Some (Some connection)) y.1 at))
  | inr n ↦ settled other connection n.1 at
]

-- one that is settled stands there
one_settled : (u : Slots) (slot : ℕ) (b : Connection) → slice_get u slot ≡ Some (Some b) → IsSettled b → AreSettledBut slot u → AreSettled u
one_settled u slot b is one settled = λ other connection at. elim (eqb_tells other slot) [
  | inl y ↦ subst IsSettled (one_there u slot b connection is (subst (λ p. slice_get u p ≡ Some (Some connection)) y.1 at)) one
  | inr n ↦ settled other connection n.1 at
]

-- it left its slot
left_settled : (t u : Slots) (slot : ℕ) (Why : Connection → Type 0) → Leaves t slot u Why → AreSettledBut slot t → AreSettled u
left_settled t u slot Why left settled =
    none_settled u slot (ap (λ l. slice_get l slot) left.new_is ∙ get_same t slot (Some left.before) None left.at) (but_settled t u slot None left.new_is settled)

-- ---- where no connection came

abbrev nobody : Option Connection
nobody = None

pub all_none : (n slot : ℕ) (connection : Connection) → slice_get (replicate n nobody) slot ≡ Some (Some connection) → ⊥
all_none zero slot connection e = absurd (cc)
all_none (suc n) zero connection e = absurd (cc)
all_none (suc n) (suc slot) connection e = all_none n slot connection e

pub free_settled : (xs : Slots) (n : ℕ) → xs ≡ replicate n None → AreSettled xs
free_settled xs n is = λ slot connection at. absurd (all_none n slot connection (subst (λ l. slice_get l slot ≡ Some (Some connection)) is at))

-- ---- after an event

pub event_settled : (event : Event) (t u : Slots) → Occurs t event u → AreSettled t → AreSettledBut (slot_of event) u
event_settled (came slot) t u h settled = but_settled t u slot (Some fresh) h.1 (all_but t slot settled)
event_settled (bytes slot text) t u h settled = but_settled t u slot (Some h.after) h.new_is (all_but t slot settled)
event_settled (wrote slot count) t u h settled = but_settled t u slot (Some h.2.after) h.2.new_is (all_but t slot settled)
event_settled (ended slot) t u h settled = but_settled t u slot (Some h.after) h.new_is (all_but t slot settled)
event_settled (failed slot) t u h settled = but_settled t u slot None h.new_is (all_but t slot settled)
event_settled (late slot) t u h settled = but_settled t u slot None h.new_is (all_but t slot settled)

pub missed_settled : (event : Event) (t u : Slots) → Misses t event u → AreSettled t → AreSettled u
missed_settled (came slot) t u h settled = absurd h
missed_settled (bytes slot text) t u h settled = left_settled t u slot (λ before. _) h (all_but t slot settled)
missed_settled (wrote slot count) t u h settled = absurd h
missed_settled (ended slot) t u h settled = absurd h
missed_settled (failed slot) t u h settled = absurd h
missed_settled (late slot) t u h settled = absurd h

-- ---- after a turn of the connection in a slot

module _ (slot : ℕ) (a b : Connection) (t u : Slots) (at : slice_get t slot ≡ Some (Some a)) (out : u ≡ slice_set t slot None) where
  got_back : (v : Slots) → v ≡ slice_set u slot (Some b) → slice_get v slot ≡ Some (Some b)
  got_back v into =
      ap (λ l. slice_get l slot) into
      ∙ get_same u slot None (Some b) (ap (λ l. slice_get l slot) out ∙ get_same t slot (Some a) None at)

  pub put_in_settled : (v : Slots) → v ≡ slice_set u slot (Some b) → IsSettled b → AreSettledBut slot t → AreSettled v
  put_in_settled v into one settled =
      one_settled v slot b (got_back v into) one (but_settled u v slot (Some b) into (but_settled t u slot None out settled))

  pub taken_settled : AreSettledBut slot t → AreSettled u
  taken_settled settled =
      none_settled u slot (ap (λ l. slice_get l slot) out ∙ get_same t slot (Some a) None at) (but_settled t u slot None out settled)

-- a connection that stays
pub stays_settled : (Runs : Tables → List CallBy → Tables → Type 0) (this : Tables) (a b : Connection) (turn : Turn) → stays turn ≡ true → Turns Runs this turn a b
    → IsSettled b
stays_settled Runs this a b Waits e h = h.2
stays_settled Runs this a b Answered e h = put_settled h.2.2.0 this.callers h.0 a b h.2.2.2
stays_settled Runs this a b Lost e h = absurd (cc)
stays_settled Runs this a b Starved e h = absurd (cc)
stays_settled Runs this a b Finished e h = absurd (cc)

-- ---- where no request stands whole

rests_by : (Runs : Tables → List CallBy → Tables → Type 0) (this : Tables) (old new : Connection) (phase : Phase) → old.phase ≡ phase → old.phase ≢ Last → old.out ≡ []
    → new ≡ old → IsUnfinished old.held → Runs this [] this → Turns Runs this (rest_of phase) old new
rests_by Runs this old new Open at goes none same short run = (run, same, subst IsSettled (sym same) (inr (at, short)))
rests_by Runs this old new Ended at goes none same short run = (run, (none, inr (at, short)))
rests_by Runs this old new Last at goes none same short run = absurd (goes at)

pub rests : (Runs : Tables → List CallBy → Tables → Type 0) (this : Tables) (old new : Connection) → IsReady old → new ≡ old
    → IsUnfinished old.held → Runs this [] this → Turns Runs this (rest_of old.phase) old new
rests Runs this old new ready same short run = rests_by Runs this old new old.phase refl ready.1 ready.0 same short run
