-- What happened to sockets, one thing after the other.
use Rattle.std.proofs.Common.{◌≡◌, inl, inr, ◌∙◌, ap, sym, subst, refl, arith, ℕ, zero, suc, Bool, true, false, List, [], ◌∷◌, ◌++◌, append_assoc, append-nil, map, option_map, Option, Some, None, Result, Ok, Err, OnErr, OnOk, slice_get, slice_set}
use Rattle.std.specs.List.{AllByRecursion, flat_map}
use Rattle.connections.specs.Items.{Event, Slots, came, bytes, wrote, ended, failed, late}
use Rattle.connections.specs.Turns.{out_at}
use Rattle.connections.specs.declared.connection.Connection.{Connection}
use Rattle.socket_desk.specs.Traffic.{AreMoved, AreShownLast, AreTold, AreToldBut, Carries, IsLast, IsVisit, IsWrite, LetsGo, Move, Moved, Passes, Socket, Sockets, Transfers, Turns, comes, fails, leaves, passes, socket_of, sockets_of, times_out, told_in, transfers}
use Rattle.socket_desk.specs.Transfers.{HasWritten}
use Rattle.socket_desk.specs.declared.visits.Visit.{Visit}
use Rattle.socket_desk.specs.declared.fault.LoopFault.{LoopFault}
use Rattle.socket_desk.specs.declared.side.Side.{Side}

-- ---- lists

-- what stood in a slot is gone
pub gone : {X : Type 0} (t : List (Option X)) (slot : ℕ) (o : Option X) → slice_get t slot ≡ Some o → slice_get (slice_set t slot None) slot ≡ Some None
gone [] slot o e = absurd (cc)
gone (a ∷ t) zero o e = refl
gone (a ∷ t) (suc slot) o e = gone t slot o e

-- it comes back as another
pub set_back : {X : Type 0} (t : List (Option X)) (slot : ℕ) (o : Option X) → slice_set (slice_set t slot None) slot o ≡ slice_set t slot o
set_back [] slot o = refl
set_back (a ∷ t) zero o = refl
set_back (a ∷ t) (suc slot) o = ap (λ l. a ∷ l) (set_back t slot o)

-- it is what it was
pub set_same : {X : Type 0} (t : List (Option X)) (slot : ℕ) (x : X) → slice_get t slot ≡ Some (Some x) → slice_set t slot (Some x) ≡ t
set_same [] slot x e = refl
set_same (a ∷ t) zero x e = ap (λ y. y ∷ t) (let s : Some (Some x) ≡ Some a = sym e in cc)
set_same (a ∷ t) (suc slot) x e = ap (λ l. a ∷ l) (set_same t slot x e)

pub map_get : {X Y : Type 0} (f : X → Y) (t : List X) (slot : ℕ) (x : X) → slice_get t slot ≡ Some x → slice_get (map f t) slot ≡ Some (f x)
map_get f [] slot x e = absurd (cc)
map_get f (a ∷ t) zero x e = ap (option_map f) e
map_get f (a ∷ t) (suc slot) x e = map_get f t slot x e

pub map_set : {X Y : Type 0} (f : X → Y) (t : List X) (slot : ℕ) (x : X) → map f (slice_set t slot x) ≡ slice_set (map f t) slot (f x)
map_set f [] slot x = refl
map_set f (a ∷ t) zero x = refl
map_set f (a ∷ t) (suc slot) x = ap (λ l. f a ∷ l) (map_set f t slot x)

-- ---- moves, one after the other

pub moved_more : (shown : Slots) (a b c : Sockets) (xs ys : List Move) → AreMoved shown a xs b → AreMoved shown b ys c → AreMoved shown a (xs ++ ys) c
moved_more shown a b c [] ys p q = subst (λ s. AreMoved shown s ys c) p q
moved_more shown a b c (x ∷ xs) ys p q = (p.0, p.1, moved_more shown p.0 b c xs ys p.2 q)

pub told_more : (xs ys : List Move) → flat_map told_in (xs ++ ys) ≡ flat_map told_in xs ++ flat_map told_in ys
told_more [] ys = refl
told_more (x ∷ xs) ys = ap (λ l. told_in x ++ l) (told_more xs ys) ∙ sym (append_assoc (told_in x) (flat_map told_in xs) (flat_map told_in ys))

pub carries_none : (shown : Slots) (a : Sockets) → Carries shown a [] a
carries_none shown a = ([], refl, refl)

pub carries_one : (shown : Slots) (a b : Sockets) (move : Move) → Moved shown a move b → Carries shown a (told_in move) b
carries_one shown a b move m = (move ∷ [], sym (append-nil (told_in move)), (b, m, refl))

pub carries_more : (shown : Slots) (a b c : Sockets) (xs ys : List Event) → Carries shown a xs b → Carries shown b ys c → Carries shown a (xs ++ ys) c
carries_more shown a b c xs ys p q = (
  p.0 ++ q.0,
  ap (λ l. l ++ ys) p.1 ∙ ap (λ l. flat_map told_in p.0 ++ l) q.1 ∙ sym (told_more p.0 q.0),
  moved_more shown a b c p.0 q.0 p.2 q.2,
)

-- ---- what is told of them

pub told_none : (shown : Slots) (a : Sockets) (told : List Event) → AreTold shown a told a told
told_none shown a told = ([], sym (append-nil told), carries_none shown a)

-- one event more is told of what happened last
pub told_last : (shown : Slots) (a b : Sockets) (told after events : List Event) → after ≡ told ++ events → Carries shown a events b → AreTold shown a told b after
told_last shown a b told after events e p = (events, e, p)

pub told_on : (shown : Slots) (a b c : Sockets) (told mid after : List Event) → AreTold shown a told b mid → AreTold shown b mid c after → AreTold shown a told c after
told_on shown a b c told mid after p q = (
  p.0 ++ q.0,
  q.1 ∙ ap (λ l. l ++ q.0) p.1 ∙ append_assoc told p.0 q.0,
  carries_more shown a b c p.0 q.0 p.2 q.2,
)

pub but_on : (shown : Slots) (a b c : Sockets) (told mid after : List Event) → AreTold shown a told b mid → AreToldBut shown b mid c after → AreToldBut shown a told c after
but_on shown a b c told mid after p q = (q.0, told_on shown a b q.0 told mid after p q.1, q.2)

-- what was told, and one thing that was not
pub but_one : (shown : Slots) (a b : Sockets) (told : List Event) (event : Event) → Carries shown a (event ∷ []) b → AreToldBut shown a told b told
but_one shown a b told event p = (a, told_none shown a told, (event ∷ [], omega (arith), p))

pub but_none : (shown : Slots) (a b : Sockets) (told after : List Event) → AreTold shown a told b after → AreToldBut shown a told b after
but_none shown a b told after p = (b, p, ([], omega (arith), carries_none shown b))

-- ---- what a result says

pub on_ok : {A E P : Type 0} (r : Result A E) → P → OnOk r P
on_ok (Ok a) p = p
on_ok (Err e) p = tt

pub on_err : {A P : Type 0} (r : Result A LoopFault) → P → OnErr r P
on_err (Ok a) p = tt
on_err (Err e) p = p

pub then_ok : {A E P Q : Type 0} (r : Result A E) → (P → Q) → OnOk r P → OnOk r Q
then_ok (Ok a) f p = f p
then_ok (Err e) f p = tt

pub then_err : {A E P Q : Type 0} (r : Result A E) → (P → Q) → OnErr r P → OnErr r Q
then_err (Ok a) f p = tt
then_err (Err e) f p = f p

-- one event was told, of what happened last
pub told_one : (shown : Slots) (a b : Sockets) (told after : List Event) (event : Event) → Carries shown a (event ∷ []) b → after ≡ told ++ event ∷ [] → AreTold shown a told b after
told_one shown a b told after event p e = (event ∷ [], e, p)

-- or not
pub told_not : (shown : Slots) (a b : Sockets) (told after : List Event) (event : Event) → Carries shown a (event ∷ []) b → after ≡ told → AreToldBut shown a told b after
told_not shown a b told after event p e = subst (AreToldBut shown a told b) (sym e) (but_one shown a b told event p)

-- the sockets did not change after that
pub told_as : (shown : Slots) (a b c : Sockets) (told after : List Event) → c ≡ b → AreTold shown a told b after → AreTold shown a told c after
told_as shown a b c told after e p = subst (λ s. AreTold shown a told s after) (sym e) p

-- what came of a visit
pub visit_as : (slot : ℕ) (shown : Option (Option Connection)) (visit is : Visit) (a b : Socket) → visit ≡ is → IsVisit slot shown visit a b → IsVisit slot shown is a b
visit_as slot shown visit is a b e h = subst (λ v. IsVisit slot shown v a b) e h

-- ---- the last showing

-- what was written to a socket is a write
pub is_write : (slot : ℕ) (text : List ℕ) (old new : Option (List ℕ)) (event : Event) → HasWritten slot text old new event → IsWrite event
is_write slot text old new (came other) h = absurd h
is_write slot text old new (bytes other more) h = absurd h
is_write slot text old new (wrote other count) h = tt
is_write slot text old new (ended other) h = absurd h
is_write slot text old new (failed other) h = absurd h
is_write slot text old new (late other) h = absurd h

pub more_writes : (xs ys : List Event) → AllByRecursion IsWrite xs → AllByRecursion IsWrite ys → AllByRecursion IsWrite (xs ++ ys)
more_writes [] ys p q = q
more_writes (x ∷ xs) ys p q = (p.0, more_writes xs ys p.1 q)

pub last_none : (shown : Slots) (a b : Sockets) → b ≡ a → AreShownLast shown a b
last_none shown a b e = subst (AreShownLast shown a) (sym e) ([], tt, carries_none shown a)

pub last_more : (shown : Slots) (a b c : Sockets) → AreShownLast shown a b → AreShownLast shown b c → AreShownLast shown a c
last_more shown a b c p q = (p.0 ++ q.0, more_writes p.0 q.0 p.1 q.1, carries_more shown a b c p.0 q.0 p.2 q.2)

-- ---- a socket that was taken out of its slot

module _ {T : Type 0} (left written : T → Option (List ℕ)) where
  -- what stands in its slot then
  pub out_free : (t u : List (Option (Side T))) (slot : ℕ) (a : Side T) → slice_get t slot ≡ Some (Some a) → u ≡ slice_set t slot None → slice_get u slot ≡ Some None
  out_free t u slot a at out = ap (λ l. slice_get l slot) out ∙ gone t slot (Some a) at

  -- it is put back
  pub back_in : (t u v : List (Option (Side T))) (slot : ℕ) (b : Side T) → u ≡ slice_set t slot None → v ≡ slice_set u slot (Some b)
      → sockets_of left written v ≡ slice_set (sockets_of left written t) slot (Some (socket_of left written b))
  back_in t u v slot b out into =
      ap (sockets_of left written) (into ∙ ap (λ l. slice_set l slot (Some b)) out ∙ set_back t slot (Some b))
      ∙ map_set (option_map (socket_of left written)) t slot (Some b)

  -- it is put in, and the sockets stay
  pub set_in : (u v w : List (Option (Side T))) (slot : ℕ) (b : Side T) → v ≡ slice_set u slot (Some b) → sockets_of left written w ≡ sockets_of left written v
      → sockets_of left written w ≡ slice_set (sockets_of left written u) slot (Some (socket_of left written b))
  set_in u v w slot b into same = same ∙ ap (sockets_of left written) into ∙ map_set (option_map (socket_of left written)) u slot (Some b)

  -- the same, after it was taken out
  pub again_in : (t u : List (Option (Side T))) (w : Sockets) (slot : ℕ) (s : Socket) → u ≡ slice_set t slot None
      → w ≡ slice_set (sockets_of left written u) slot (Some s) → w ≡ slice_set (sockets_of left written t) slot (Some s)
  again_in t u w slot s out into =
      into ∙ ap (λ l. slice_set (sockets_of left written l) slot (Some s)) out
      ∙ ap (λ l. slice_set l slot (Some s)) (map_set (option_map (socket_of left written)) t slot None)
      ∙ set_back (sockets_of left written t) slot (Some s)

  -- as it was
  pub same_in : (t : List (Option (Side T))) (w : Sockets) (slot : ℕ) (a : Side T) → slice_get t slot ≡ Some (Some a)
      → w ≡ slice_set (sockets_of left written t) slot (Some (socket_of left written a)) → w ≡ sockets_of left written t
  same_in t w slot a at into =
      into ∙ set_same (sockets_of left written t) slot (socket_of left written a) (map_get (option_map (socket_of left written)) t slot (Some a) at)

  -- something happened to it
  pub turned : (t : List (Option (Side T))) (w : Sockets) (slot : ℕ) (a : Side T) (s : Socket) (Turn : Socket → Socket → Type 0) → slice_get t slot ≡ Some (Some a)
      → w ≡ slice_set (sockets_of left written t) slot (Some s) → Turn (socket_of left written a) s → Turns (sockets_of left written t) slot w Turn
  turned t w slot a s Turn at into turn = record {
    before = socket_of left written a;
    after = s;
    at = map_get (option_map (socket_of left written)) t slot (Some a) at;
    turn = turn;
    new_is = into;
  }

  -- it is let go
  pub let_go : (t u : List (Option (Side T))) (slot : ℕ) (a : Side T) (Why : Socket → Type 0) → slice_get t slot ≡ Some (Some a) → u ≡ slice_set t slot None
      → Why (socket_of left written a) → LetsGo (sockets_of left written t) slot (sockets_of left written u) Why
  let_go t u slot a Why at out why = record {
    before = socket_of left written a;
    at = map_get (option_map (socket_of left written)) t slot (Some a) at;
    why = why;
    new_is = ap (sockets_of left written) out ∙ map_set (option_map (socket_of left written)) t slot None;
  }

  -- another comes to its slot
  pub come_in : (shown : Slots) (t u : List (Option (Side T))) (slot : ℕ) (b : Side T) → slice_get t slot ≡ Some None → u ≡ slice_set t slot (Some b) → b.is_closing ≡ false
      → b.is_ahead ≡ true → Carries shown (sockets_of left written t) (came slot ∷ []) (sockets_of left written u)
  come_in shown t u slot b at into unclosed ahead = carries_one shown (sockets_of left written t) (sockets_of left written u) (comes slot) (
    map_get (option_map (socket_of left written)) t slot None at,
    (
      socket_of left written b,
      unclosed,
      ahead,
      ap (sockets_of left written) into ∙ map_set (option_map (socket_of left written)) t slot (Some b),
    ),
  )

  -- what a visit did, and tells
  pub visit_told : (shown : Slots) (t : List (Option (Side T))) (w : Sockets) (slot : ℕ) (a : Side T) (s : Socket) (event : Event) → slice_get t slot ≡ Some (Some a)
      → w ≡ slice_set (sockets_of left written t) slot (Some s) → Transfers slot (slice_get shown slot) event (socket_of left written a) s
      → Carries shown (sockets_of left written t) (event ∷ []) w
  visit_told shown t w slot a s event at into turn =
      carries_one shown (sockets_of left written t) w (transfers slot event) (turned t w slot a s (Transfers slot (slice_get shown slot) event) at into turn)

  pub passed : (shown : Slots) (t : List (Option (Side T))) (w : Sockets) (slot : ℕ) (a : Side T) (s : Socket) → slice_get t slot ≡ Some (Some a)
      → w ≡ slice_set (sockets_of left written t) slot (Some s) → Passes (slice_get shown slot) (socket_of left written a) s → Carries shown (sockets_of left written t) [] w
  passed shown t w slot a s at into turn =
      carries_one shown (sockets_of left written t) w (passes slot) (turned t w slot a s (Passes (slice_get shown slot)) at into turn)

  -- what it did, and nobody is told
  pub visit_passes : (shown : Slots) (t : List (Option (Side T))) (w : Sockets) (slot : ℕ) (a : Side T) (s : Socket) (told : List Event) → slice_get t slot ≡ Some (Some a)
      → w ≡ slice_set (sockets_of left written t) slot (Some s) → Passes (slice_get shown slot) (socket_of left written a) s
      → AreTold shown (sockets_of left written t) told w told
  visit_passes shown t w slot a s told at into turn = (
    [],
    sym (append-nil told),
    passed shown t w slot a s at into turn,
  )

  pub visit_over : (shown : Slots) (t u : List (Option (Side T))) (slot : ℕ) (a : Side T) (told : List Event) → slice_get t slot ≡ Some (Some a) → u ≡ slice_set t slot None
      → a.is_closing ≡ true → AreTold shown (sockets_of left written t) told (sockets_of left written u) told
  visit_over shown t u slot a told at out why = (
    [],
    sym (append-nil told),
    carries_one shown (sockets_of left written t) (sockets_of left written u) (leaves slot) (let_go t u slot a (λ before. before.is_closing ≡ true) at out why),
  )

  pub visit_failed : (shown : Slots) (t u : List (Option (Side T))) (slot : ℕ) (a : Side T) → slice_get t slot ≡ Some (Some a) → u ≡ slice_set t slot None
      → a.is_closing ≡ false → Carries shown (sockets_of left written t) (failed slot ∷ []) (sockets_of left written u)
  visit_failed shown t u slot a at out why =
      carries_one shown (sockets_of left written t) (sockets_of left written u) (fails slot) (let_go t u slot a (λ before. before.is_closing ≡ false) at out why)

  pub ended_late : (shown : Slots) (t u : List (Option (Side T))) (slot : ℕ) (a : Side T) → slice_get t slot ≡ Some (Some a) → u ≡ slice_set t slot None
      → a.is_closing ≡ false → Carries shown (sockets_of left written t) (late slot ∷ []) (sockets_of left written u)
  ended_late shown t u slot a at out why =
      carries_one shown (sockets_of left written t) (sockets_of left written u) (times_out slot) (let_go t u slot a (λ before. before.is_closing ≡ false) at out why)

  -- in the last showing
  pub last_written : (shown : Slots) (t : List (Option (Side T))) (w : Sockets) (slot : ℕ) (a : Side T) (s : Socket) → slice_get t slot ≡ Some (Some a)
      → w ≡ slice_set (sockets_of left written t) slot (Some s) → IsLast slot (slice_get shown slot) (socket_of left written a) s
      → AreShownLast shown (sockets_of left written t) w
  last_written shown t w slot a s at into last = elim last [
    | inl x ↦ (
      x.0 ∷ [],
      (is_write slot (out_at (slice_get shown slot)) (socket_of left written a).written s.written x.0 x.1.5, tt),
      visit_told shown t w slot a s x.0 at into (inr x.1),
    )
    | inr r ↦ ([], tt, passed shown t w slot a s at into (inl r))
  ]

  -- what was told of one is noted
  abbrev made : T → Bool → Bool → Socket
  made stream closing ahead = record { left = left stream; written = written stream; is_closing = closing; is_ahead = ahead }

  pub noted : (a b : Side T) → b.stream ≡ a.stream → b.is_closing ≡ a.is_closing → b.is_ahead ≡ false → socket_of left written b ≡ made a.stream a.is_closing false
  noted a b stream closing ahead =
      ap (λ x. made x b.is_closing b.is_ahead) stream ∙ ap (λ x. made a.stream x b.is_ahead) closing ∙ ap (λ x. made a.stream a.is_closing x) ahead
