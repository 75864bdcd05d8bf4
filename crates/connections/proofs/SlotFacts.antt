-- Connections in their slots.
use Rattle.std.proofs.Common.{◌≡◌, ◌≢◌, inl, inr, ◌<◌, ◌≤◌, ◌==◌, false, ◌∙◌, ap, sym, subst, refl, arith, ℕ, zero, suc, List, [], ◌∷◌, length, Option, Some, None, Result, Ok, Err, IfNone, OnOk, slice_get, slice_set}
use Rattle.std.proofs.Math.ListN.{length-set, replicate}
use Rattle.std.proofs.lemmas.Bool.Decides.{eqb_tells}
use Rattle.std.proofs.lemmas.List.{set-get_or}
use Rattle.std.proofs.lemmas.Option.{get_or_from_slice_get, slice_get_past, slice_get_within}
use Rattle.std.specs.Result.{is_err}
use Rattle.connections.specs.Items.{Leaves, Moves, NoneIs, Slots}
use Rattle.connections.specs.declared.connection.Connection.{Connection}

pub get_same : {X : Type 0} (t : List X) (slot : ℕ) (o x : X) → slice_get t slot ≡ Some o → slice_get (slice_set t slot x) slot ≡ Some x
get_same [] slot o x e = absurd (cc)
get_same (a ∷ t) zero o x e = refl
get_same (a ∷ t) (suc slot) o x e = get_same t slot o x e

pub get_other : {X : Type 0} (t : List X) (other slot : ℕ) (x : X) → other ≢ slot → slice_get (slice_set t other x) slot ≡ slice_get t slot
get_other [] other slot x n = refl
get_other (a ∷ t) zero zero x n = absurd (n refl)
get_other (a ∷ t) zero (suc slot) x n = refl
get_other (a ∷ t) (suc other) zero x n = refl
get_other (a ∷ t) (suc other) (suc slot) x n = get_other t other slot x (λ e. n (ap suc e))

pub set_again : {X : Type 0} (t : List X) (slot : ℕ) (x y : X) → slice_set (slice_set t slot x) slot y ≡ slice_set t slot y
set_again [] slot x y = refl
set_again (a ∷ t) zero x y = refl
set_again (a ∷ t) (suc slot) x y = ap (λ l. a ∷ l) (set_again t slot x y)

pub put_back : {X : Type 0} (t : List X) (slot : ℕ) (x : X) → slice_get t slot ≡ Some x → slice_set t slot x ≡ t
put_back t slot x e = subst (λ v. slice_set t slot v ≡ t) (get_or_from_slice_get t slot x x e) (set-get_or t slot x)

-- ---- a connection that was taken out of its slot

pub moves_by : (t u v : Slots) (slot : ℕ) (a b : Connection) (Turn : Connection → Connection → Type 0) → slice_get t slot ≡ Some (Some a)
    → u ≡ slice_set t slot None → v ≡ slice_set u slot (Some b) → Turn a b → Moves t slot v Turn
moves_by t u v slot a b Turn at out into turn = record {
  before = a;
  after = b;
  at = at;
  turn = turn;
  new_is = into ∙ ap (λ l. slice_set l slot (Some b)) out ∙ set_again t slot None (Some b);
}

pub back_by : (t u v : Slots) (slot : ℕ) (a : Connection) → slice_get t slot ≡ Some (Some a) → u ≡ slice_set t slot None
    → v ≡ slice_set u slot (Some a) → v ≡ t
back_by t u v slot a at out into =
    into ∙ ap (λ l. slice_set l slot (Some a)) out ∙ set_again t slot None (Some a) ∙ put_back t slot (Some a) at

pub within : (t u : Slots) (slot : ℕ) (a : Connection) → slice_get t slot ≡ Some (Some a) → u ≡ slice_set t slot None → slot < length u
within t u slot a at out =
    let h : slot < length t = slice_get_within t slot (Some a) at in
    let e : length u ≡ length t = ap length out ∙ length-set t slot None in
    omega arith

-- ---- what stands in one slot, after something was done in another or the same

-- the same connection is found in a slot twice
pub one_there : (t : Slots) (slot : ℕ) (a b : Connection) → slice_get t slot ≡ Some (Some a) → slice_get t slot ≡ Some (Some b) → a ≡ b
one_there t slot a b h k = let e : Some (Some a) ≡ Some (Some b) = sym h ∙ k in cc

pub none_there : (t : Slots) (slot : ℕ) (a : Connection) → slice_get t slot ≡ Some None → slice_get t slot ≡ Some (Some a) → ⊥
none_there t slot a h k = let e : Some None ≡ Some (Some a) = sym h ∙ k in absurd (cc)

-- it moved elsewhere
pub other_moved : (t v : Slots) (other slot : ℕ) (o : Option Connection) (Turn : Connection → Connection → Type 0) → other ≢ slot → Moves t other v Turn
    → slice_get t slot ≡ Some o → slice_get v slot ≡ Some o
other_moved t v other slot o Turn n m at = ap (λ l. slice_get l slot) m.new_is ∙ get_other t other slot (Some m.after) n ∙ at

-- it left elsewhere
pub other_left : (t v : Slots) (other slot : ℕ) (o : Option Connection) (Why : Connection → Type 0) → other ≢ slot → Leaves t other v Why
    → slice_get t slot ≡ Some o → slice_get v slot ≡ Some o
other_left t v other slot o Why n m at = ap (λ l. slice_get l slot) m.new_is ∙ get_other t other slot None n ∙ at

-- it moved here
pub moved_here : (t v : Slots) (other slot : ℕ) (a : Connection) (Turn : Connection → Connection → Type 0) → other ≡ slot → Moves t other v Turn
    → slice_get t slot ≡ Some (Some a) → (b : Connection) × Turn a b × (slice_get v slot ≡ Some (Some b))
moved_here t v other slot a Turn same m at =
    let here : Moves t slot v Turn = subst (λ p. Moves t p v Turn) same m in (
      here.after,
      subst (λ x. Turn x here.after) (one_there t slot here.before a here.at at) here.turn,
      ap (λ l. slice_get l slot) here.new_is ∙ get_same t slot (Some a) (Some here.after) at,
    )

-- it left here
pub left_here : (t v : Slots) (other slot : ℕ) (a : Connection) (Why : Connection → Type 0) → other ≡ slot → Leaves t other v Why
    → slice_get t slot ≡ Some (Some a) → Why a × (slice_get v slot ≡ Some None)
left_here t v other slot a Why same m at =
    let here : Leaves t slot v Why = subst (λ p. Leaves t p v Why) same m in (
      subst Why (one_there t slot here.before a here.at at) here.why,
      ap (λ l. slice_get l slot) here.new_is ∙ get_same t slot (Some a) None at,
    )

-- where none is, none moved and none left
pub none_moved : (t v : Slots) (other slot : ℕ) (Turn : Connection → Connection → Type 0) → Moves t other v Turn → slice_get t slot ≡ Some None
    → ((other == slot) ≡ false) × (slice_get v slot ≡ Some None)
none_moved t v other slot Turn m at = elim (eqb_tells other slot) [
  | inl y ↦ absurd (none_there t slot m.before at (subst (λ p. slice_get t p ≡ Some (Some m.before)) y.1 m.at))
  | inr n ↦ (n.0, other_moved t v other slot None Turn n.1 m at)
]

pub none_left : (t v : Slots) (other slot : ℕ) (Why : Connection → Type 0) → Leaves t other v Why → slice_get t slot ≡ Some None
    → ((other == slot) ≡ false) × (slice_get v slot ≡ Some None)
none_left t v other slot Why m at = elim (eqb_tells other slot) [
  | inl y ↦ absurd (none_there t slot m.before at (subst (λ p. slice_get t p ≡ Some (Some m.before)) y.1 m.at))
  | inr n ↦ (n.0, other_left t v other slot None Why n.1 m at)
]

-- ---- slots of the code

-- none stands in a free slot
pub none_free : (xs : Slots) (slot : ℕ) (Is : Connection → Type 0) → slice_get xs slot ≡ Some None → NoneIs xs slot Is
none_free xs slot Is at = λ before e is. none_there xs slot before at e

-- past the last slot there is none
pub none_past : (xs : Slots) (slot : ℕ) (Is : Connection → Type 0) → length xs ≤ slot → NoneIs xs slot Is
none_past xs slot Is past = λ before e is. let none : slice_get xs slot ≡ None = slice_get_past xs slot past in let f : None ≡ Some (Some before) = sym none ∙ e in absurd (cc)

-- what is taken out of a free slot
pub take_none : (xs : Slots) (slot : ℕ) (taken left : Option Connection) (Is : Connection → Type 0) → slice_get xs slot ≡ Some taken → left ≡ None
    → IfNone taken (NoneIs xs slot Is × (slice_set xs slot left ≡ xs))
take_none xs slot (Some connection) left Is at e = tt
take_none xs slot None left Is at e = (none_free xs slot Is at, ap (slice_set xs slot) e ∙ put_back xs slot None at)

-- so many free slots
pub all_free : (xs : Slots) (n m : ℕ) → xs ≡ replicate n None → n ≡ m → xs ≡ replicate m None
all_free xs n m e f = e ∙ ap (λ k. replicate k None) f

-- the connection that stands there isn't so
pub not_so : (xs : Slots) (slot : ℕ) (a : Connection) (Is : Connection → Type 0) → slice_get xs slot ≡ Some (Some a) → (Is a → ⊥) → NoneIs xs slot Is
not_so xs slot a Is at not = λ before e is. not (subst Is (one_there xs slot before a e at) is)

pub was_ok : {A E P : Type 0} (r : Result A E) → OnOk r P → is_err r ≡ false → P
was_ok (Ok a) h e = h
was_ok (Err x) h e = absurd (cc)
