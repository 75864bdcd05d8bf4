-- Turns, one after the other.
use Rattle.std.proofs.Common.{◌≡◌, ◌≢◌, ◌⊎◌, inl, inr, ◌∙◌, ap, sym, subst, refl, arith, ℕ, zero, suc, ◌+◌, ◌<◌, Bool, true, false, List, [], ◌∷◌, ◌++◌, append_assoc, append-nil, length, map, take, Option, Some, None, slice_get, slice_index_or, slice_set}
use Rattle.std.proofs.Common.{Result, Ok, Err, OnErr, OnOk}
use Rattle.std.proofs.lemmas.Option.{get_or_from_slice_get, slice_get_read}
use Rattle.std.specs.List.{AllByRecursion, flat_map}
use Rattle.connections.specs.Fair.{AreApart, AreFair, AreMoves, Caller, HasTurn, IsMore, IsMove, IsNoneOf, IsTurn, Joins, Move, Queue, StandOnce, Waits, callers_in, joins, more_of, turns, turns_in, waiting, waits_of}
use Rattle.connections.specs.declared.turns.Waiting.{Waiting}

-- ---- lists

pub same_head : {X : Type 0} (x y : X) (xs ys : List X) → x ∷ xs ≡ y ∷ ys → x ≡ y
same_head x y xs ys e = cc

pub same_tail : {X : Type 0} (x y : X) (xs ys : List X) → x ∷ xs ≡ y ∷ ys → xs ≡ ys
same_tail x y xs ys e = cc

pub callers_more : (xs ys : Queue) → callers_in (xs ++ ys) ≡ callers_in xs ++ callers_in ys
callers_more [] ys = refl
callers_more (x ∷ xs) ys = ap (λ l. x.caller ∷ l) (callers_more xs ys)

pub waits_more : (xs ys : List Waiting) → map waits_of (xs ++ ys) ≡ map waits_of xs ++ map waits_of ys
waits_more [] ys = refl
waits_more (x ∷ xs) ys = ap (λ l. waits_of x ∷ l) (waits_more xs ys)

-- ---- who stands before a caller

-- a caller stands behind as many others, and these are the same ones
abbrev pub Stands : List Caller → Caller → Queue → Type 0
Stands others caller queue =
    (before after : Queue) × (waits : Waits) × (queue ≡ before ++ waits ∷ after) × (callers_in before ≡ others) × (waits.caller ≡ caller)

pub stands_on : (x : Waits) (others : List Caller) (caller : Caller) (queue : Queue) → Stands others caller queue → Stands (x.caller ∷ others) caller (x ∷ queue)
stands_on x others caller queue s = (x ∷ s.0, s.1, s.2, ap (λ l. x ∷ l) s.3, ap (λ l. x.caller ∷ l) s.4, s.5)

-- one of them, or another, has one more request
pub stays_more : (b before : Queue) (one two : Waits) (a after : Queue) (waits : Waits) → two.caller ≡ one.caller → b ++ one ∷ a ≡ before ++ waits ∷ after
    → Stands (callers_in before) waits.caller (b ++ two ∷ a)
stays_more [] [] one two a after waits same e = ([], a, two, refl, refl, same ∙ ap (λ w. w.caller) (same_head one waits a after e))
stays_more [] (x ∷ before) one two a after waits same e = (
  two ∷ before,
  after,
  waits,
  ap (λ l. two ∷ l) (same_tail one x a (before ++ waits ∷ after) e),
  ap (λ c. c ∷ callers_in before) (same ∙ ap (λ w. w.caller) (same_head one x a (before ++ waits ∷ after) e)),
  refl,
)
stays_more (y ∷ b) [] one two a after waits same e = ([], b ++ two ∷ a, y, refl, refl, ap (λ w. w.caller) (same_head y waits (b ++ one ∷ a) after e))
stays_more (y ∷ b) (x ∷ before) one two a after waits same e =
    subst (λ c. Stands (c ∷ callers_in before) waits.caller (y ∷ b ++ two ∷ a)) (ap (λ w. w.caller) (same_head y x (b ++ one ∷ a) (before ++ waits ∷ after) e))
    (stands_on y (callers_in before) waits.caller (b ++ two ∷ a) (stays_more b before one two a after waits same (same_tail y x (b ++ one ∷ a) (before ++ waits ∷ after) e)))

-- others come behind it
pub stays_before : (before after more : Queue) (waits : Waits) → Stands (callers_in before) waits.caller ((before ++ waits ∷ after) ++ more)
stays_before before after more waits = (before, after ++ more, waits, append_assoc before (waits ∷ after) more, refl, refl)

pub stays_joined : (old new before after : Queue) (waits : Waits) (caller : Caller) (slot : ℕ) → Joins caller slot old new → old ≡ before ++ waits ∷ after
    → Stands (callers_in before) waits.caller new
stays_joined old new before after waits caller slot j e = elim j [
  | inl k ↦ subst (Stands (callers_in before) waits.caller) (sym k.5)
      (stays_more k.0 before (record { caller = caller; first = k.2; others = k.3 }) (record { caller = caller; first = k.2; others = k.3 ++ slot ∷ [] }) k.1 after waits refl (sym k.4 ∙ e))
  | inr k ↦ subst (Stands (callers_in before) waits.caller) (sym k.1)
      (subst (λ q. Stands (callers_in before) waits.caller (q ++ record { caller = caller; first = slot; others = [] } ∷ [])) (sym e)
      (stays_before before after (record { caller = caller; first = slot; others = [] } ∷ []) waits))
]

-- who had turns before it stood before it
pub fair_from : (caller : Caller) (moves : List Move) (old new before after : Queue) (waits : Waits) → AreMoves old moves new → old ≡ before ++ waits ∷ after → waits.caller ≡ caller
    → IsNoneOf caller (turns_in moves) → (others : List Caller) × (callers_in before ≡ turns_in moves ++ others)
fair_from caller [] old new before after waits m e is none = (callers_in before, refl)
fair_from caller (joins c slot ∷ moves) old new before after waits m e is none =
    let s : Stands (callers_in before) waits.caller m.0 = stays_joined old m.0 before after waits c slot m.1 e in
    let f : (others : List Caller) × (callers_in s.0 ≡ turns_in moves ++ others) = fair_from caller moves m.0 new s.0 s.1 s.2 m.2 s.3 (s.5 ∙ is) none in
    (f.0, sym s.4 ∙ f.1)
fair_from caller (turns c slot ∷ moves) old new [] after waits m e is none =
    absurd (none.0 (ap (λ w. w.caller) (same_head (record { caller = c; first = slot; others = m.1.0 }) waits m.1.1 after (sym m.1.2 ∙ e)) ∙ is))
fair_from caller (turns c slot ∷ moves) old new (x ∷ before) after waits m e is none =
    let h : record { caller = c; first = slot; others = m.1.0 } ∷ m.1.1 ≡ x ∷ (before ++ waits ∷ after) = sym m.1.2 ∙ e in
    let head : c ≡ x.caller = ap (λ w. w.caller) (same_head (record { caller = c; first = slot; others = m.1.0 }) x m.1.1 (before ++ waits ∷ after) h) in
    let mid : m.0 ≡ before ++ waits ∷ (after ++ waiting c m.1.0) =
    m.1.3 ∙ ap (λ l. l ++ waiting c m.1.0) (same_tail (record { caller = c; first = slot; others = m.1.0 }) x m.1.1 (before ++ waits ∷ after) h)
    ∙ append_assoc before (waits ∷ after) (waiting c m.1.0) in
    let f : (others : List Caller) × (callers_in before ≡ turns_in moves ++ others) =
    fair_from caller moves m.0 new before (after ++ waiting c m.1.0) waits m.2 mid is none.1 in
    (f.0, ap (λ l. x.caller ∷ l) f.1 ∙ ap (λ d. d ∷ (turns_in moves ++ f.0)) (sym head))

pub fair : AreFair
fair old new before after waits moves m e none = fair_from waits.caller moves old new before after waits m e refl none

-- ---- no caller stands there twice

pub none_more : (caller : Caller) (xs ys : List Caller) → IsNoneOf caller xs → IsNoneOf caller ys → IsNoneOf caller (xs ++ ys)
none_more caller [] ys p q = q
none_more caller (x ∷ xs) ys p q = (p.0, none_more caller xs ys p.1 q)

pub apart_last : (xs : List Caller) (caller : Caller) → AreApart xs → IsNoneOf caller xs → AreApart (xs ++ caller ∷ [])
apart_last [] caller a none = (tt, tt)
apart_last (x ∷ xs) caller a none = (none_more x xs (caller ∷ []) a.0 ((λ e. none.0 (sym e)), tt), apart_last xs caller a.1 none.1)

pub callers_same : (b a : Queue) (one two : Waits) → two.caller ≡ one.caller → callers_in (b ++ two ∷ a) ≡ callers_in (b ++ one ∷ a)
callers_same b a one two same = callers_more b (two ∷ a) ∙ ap (λ c. callers_in b ++ c ∷ callers_in a) same ∙ sym (callers_more b (one ∷ a))

pub apart_joined : (old new : Queue) (caller : Caller) (slot : ℕ) → Joins caller slot old new → AreApart (callers_in old) → AreApart (callers_in new)
apart_joined old new caller slot j a = elim j [
  | inl k ↦ subst AreApart (sym (ap callers_in k.5 ∙ callers_same k.0 k.1 (record { caller = caller; first = k.2; others = k.3 }) (record { caller = caller; first = k.2; others = k.3 ++ slot ∷ [] }) refl
      ∙ sym (ap callers_in k.4))) a
  | inr k ↦ subst AreApart (sym (ap callers_in k.1 ∙ callers_more old (record { caller = caller; first = slot; others = [] } ∷ []))) (apart_last (callers_in old) caller a k.0)
]

pub apart_behind : (behind : Queue) (caller : Caller) (others : List ℕ) → AreApart (caller ∷ callers_in behind) → AreApart (callers_in (behind ++ waiting caller others))
apart_behind behind caller [] a = subst (λ q. AreApart (callers_in q)) (sym (append-nil behind)) a.1
apart_behind behind caller (slot ∷ others) a =
    subst AreApart (sym (callers_more behind (record { caller = caller; first = slot; others = others } ∷ []))) (apart_last (callers_in behind) caller a.1 a.0)

pub apart_turn : (old new : Queue) (caller : Caller) (slot : ℕ) → HasTurn caller slot old new → AreApart (callers_in old) → AreApart (callers_in new)
apart_turn old new caller slot h a = subst (λ q. AreApart (callers_in q)) (sym h.3) (apart_behind h.1 caller h.0 (subst (λ q. AreApart (callers_in q)) h.2 a))

pub apart_on : (moves : List Move) (old new : Queue) → AreMoves old moves new → AreApart (callers_in old) → AreApart (callers_in new)
apart_on [] old new m a = subst (λ q. AreApart (callers_in q)) (sym m) a
apart_on (joins caller slot ∷ moves) old new m a = apart_on moves m.0 new m.2 (apart_joined old m.0 caller slot m.1 a)
apart_on (turns caller slot ∷ moves) old new m a = apart_on moves m.0 new m.2 (apart_turn old m.0 caller slot m.1 a)

pub once : StandOnce
once queue moves m = apart_on moves [] queue m tt

-- ---- as the code has it

pub turned : (old behind : List Waiting) (one : Waiting) → old ≡ one ∷ behind → one.others.items ≡ [] → IsTurn (map waits_of old) (Some one.first) (map waits_of behind)
turned old behind one e none = (
  (waits_of one).caller,
  (
    one.others.items,
    map waits_of behind,
    ap (map waits_of) e,
    subst (λ l. map waits_of behind ≡ map waits_of behind ++ waiting (waits_of one).caller l) (sym none) (sym (append-nil (map waits_of behind))),
  ),
)

pub turned_on : (old behind new : List Waiting) (one two : Waiting) → old ≡ one ∷ behind → new ≡ behind ++ two ∷ [] → two.caller ≡ one.caller
    → one.others.items ≡ two.first ∷ two.others.items → IsTurn (map waits_of old) (Some one.first) (map waits_of new)
turned_on old behind new one two e f same more = (
  (waits_of one).caller,
  (
    one.others.items,
    map waits_of behind,
    ap (map waits_of) e,
    ap (map waits_of) f ∙ waits_more behind (two ∷ [])
        ∙ ap (λ c. map waits_of behind ++ record { caller = c; first = two.first; others = two.others.items } ∷ []) (ap (λ v. v.items) same)
        ∙ sym (ap (λ l. map waits_of behind ++ waiting (waits_of one).caller l) more),
  ),
)

pub joined_last : (old new : List Waiting) (one : Waiting) (caller : Caller) (slot : ℕ) → IsNoneOf caller (callers_in (map waits_of old)) → new ≡ old ++ one ∷ []
    → (waits_of one).caller ≡ caller → one.first ≡ slot → one.others.items ≡ [] → Joins caller slot (map waits_of old) (map waits_of new)
joined_last old new one caller slot none e is at empty = inr (
  none,
  ap (map waits_of) e ∙ waits_more old (one ∷ [])
      ∙ ap (λ c. map waits_of old ++ record { caller = c; first = one.first; others = one.others.items } ∷ []) is
      ∙ ap (λ n. map waits_of old ++ record { caller = caller; first = n; others = one.others.items } ∷ []) at
      ∙ ap (λ l. map waits_of old ++ record { caller = caller; first = slot; others = l } ∷ []) empty,
)

-- those before a place, and those behind it
pub parts_at : (t : List Waiting) (at : ℕ) (one two : Waiting) → slice_get t at ≡ Some one
    → (b a : List Waiting) × (t ≡ b ++ one ∷ a) × (slice_set t at two ≡ b ++ two ∷ a)
parts_at [] at one two e = absurd (cc)
parts_at (x ∷ t) zero one two e = ([], t, ap (λ y. y ∷ t) (let s : Some x ≡ Some one = e in cc), refl)
parts_at (x ∷ t) (suc at) one two e =
    let p : (b a : List Waiting) × (t ≡ b ++ one ∷ a) × (slice_set t at two ≡ b ++ two ∷ a) = parts_at t at one two e in
    (x ∷ p.0, p.1, ap (λ l. x ∷ l) p.2, ap (λ l. x ∷ l) p.3)

pub waits_made : (b a : List Waiting) (one : Waiting) (caller : Caller) (first : ℕ) (others : List ℕ) → (waits_of one).caller ≡ caller → one.first ≡ first → one.others.items ≡ others
    → map waits_of (b ++ one ∷ a) ≡ map waits_of b ++ record { caller = caller; first = first; others = others } ∷ map waits_of a
waits_made b a one caller first others is at are =
    waits_more b (one ∷ a)
    ∙ ap (λ c. map waits_of b ++ record { caller = c; first = one.first; others = one.others.items } ∷ map waits_of a) is
    ∙ ap (λ n. map waits_of b ++ record { caller = caller; first = n; others = one.others.items } ∷ map waits_of a) at
    ∙ ap (λ l. map waits_of b ++ record { caller = caller; first = first; others = l } ∷ map waits_of a) are

pub joined_at : (old new : List Waiting) (at : ℕ) (caller : Caller) (slot : ℕ) (found : Waiting) → slice_get old at ≡ Some found → (waits_of found).caller ≡ caller
    → IsMore at true slot old new → Joins caller slot (map waits_of old) (map waits_of new)
joined_at old new at caller slot found get is more =
    let one : Waiting = more.0 in
    let two : Waiting = more.1 in
    let same : one ≡ found = (let s : Some one ≡ Some found = sym more.2 ∙ get in cc) in
    let p : (b a : List Waiting) × (old ≡ b ++ one ∷ a) × (slice_set old at two ≡ b ++ two ∷ a) = parts_at old at one two more.2 in
    let one_is : (waits_of one).caller ≡ caller = ap (λ w. (waits_of w).caller) same ∙ is in
    inl (
      map waits_of p.0,
      map waits_of p.1,
      one.first,
      one.others.items,
      ap (map waits_of) p.2 ∙ waits_made p.0 p.1 one caller one.first one.others.items one_is refl refl,
      ap (map waits_of) (more.3 ∙ p.3) ∙ waits_made p.0 p.1 two caller one.first (one.others.items ++ slot ∷ []) (ap (λ v. v.items) more.4 ∙ one_is) more.5 more.6,
    )

pub not_joined : (old new : List Waiting) (at slot : ℕ) → IsMore at false slot old new → map waits_of new ≡ map waits_of old
not_joined old new at slot more =
    let one : Waiting = more.0 in
    let two : Waiting = more.1 in
    let p : (b a : List Waiting) × (old ≡ b ++ one ∷ a) × (slice_set old at two ≡ b ++ two ∷ a) = parts_at old at one two more.2 in
    ap (map waits_of) (more.3 ∙ p.3)
    ∙ waits_made p.0 p.1 two (waits_of one).caller one.first one.others.items (ap (λ v. v.items) more.4) more.5 more.6
    ∙ sym (waits_made p.0 p.1 one (waits_of one).caller one.first one.others.items refl refl refl)
    ∙ sym (ap (map waits_of) p.2)

-- what is lent at a place
pub is_lent : {X : Type 0} (t : List X) (at : ℕ) (one x : X) → slice_get t at ≡ Some one → x ≡ slice_index_or t at x → x ≡ one
is_lent t at one x e f = f ∙ get_or_from_slice_get t at one x e

pub lent_at : {X : Type 0} (t : List X) (at : ℕ) (one x : X) → slice_get t at ≡ Some one → x ≡ slice_index_or t at x → slice_get t at ≡ Some x
lent_at t at one x e f = e ∙ ap Some (sym (is_lent t at one x e f))

pub there_is : {X : Type 0} (t : List X) (at : ℕ) → at < length t → (one : X) × (slice_get t at ≡ Some one)
there_is [] at h = absurd (omega (arith, h))
there_is (x ∷ t) zero h = (x, refl)
there_is (x ∷ t) (suc at) h = there_is t at (omega (arith, h))

pub none_to : (t : List Waiting) (at : ℕ) (caller : Caller) → at < length t → IsNoneOf caller (callers_in (map waits_of (take at t)))
    → ((one : Waiting) → slice_get t at ≡ Some one → one.caller.items ≢ caller) → IsNoneOf caller (callers_in (map waits_of (take (suc at) t)))
none_to [] at caller h none other = absurd (omega (arith, h))
none_to (x ∷ t) zero caller h none other = (other x refl, tt)
none_to (x ∷ t) (suc at) caller h none other = (none.0, none_to t at caller (omega (arith, h)) none.1 other)

-- the same of one more
pub none_next : (t : List Waiting) (at : ℕ) (caller : Caller) → at < length t → IsNoneOf caller (callers_in (map waits_of (take at t)))
    → ((one : Waiting) → slice_get t at ≡ Some one → one.caller.items ≢ caller) → IsNoneOf caller (callers_in (map waits_of (take (at + 1) t)))
none_next t at caller h none other =
    let next : suc at ≡ at + 1 = omega (arith) in
    subst (λ n. IsNoneOf caller (callers_in (map waits_of (take n t)))) next (none_to t at caller h none other)

pub joined_ok : {A E : Type 0} (r : Result A E) (old new : List Waiting) (at : ℕ) (caller : Caller) (slot : ℕ) (found : Waiting) → slice_get old at ≡ Some found → (waits_of found).caller ≡ caller
    → OnOk r (IsMore at true slot old new) → OnOk r (Joins caller slot (map waits_of old) (map waits_of new))
joined_ok (Ok u) old new at caller slot found get is more = joined_at old new at caller slot found get is more
joined_ok (Err e) old new at caller slot found get is more = tt

pub joined_err : {A E : Type 0} (r : Result A E) (old new : List Waiting) (at slot : ℕ) → OnErr r (IsMore at false slot old new) → OnErr r (map waits_of new ≡ map waits_of old)
joined_err (Ok u) old new at slot more = tt
joined_err (Err e) old new at slot more = not_joined old new at slot more
