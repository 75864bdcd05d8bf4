-- Nodes that are put, step by step.
use Rattle.std.proofs.Common.{◌≡◌, ℕ, ◌+◌, ◌<◌, ◌⊎◌, List, [], ◌∷◌, ◌++◌, Bool, true, false, length, get_or, set, take, refl, sym, ◌∙◌, subst, inl, inr, arith, append_assoc}
use Rattle.std.specs.List.{Contains}
use Rattle.std.proofs.lemmas.Bool.{cases_eq}
use Rattle.std.proofs.lemmas.Grind.{common_steps}
use Rattle.std.proofs.lemmas.List.{take_all, take_more, get_or-set_same, get_or-set_other}
use Rattle.std.proofs.lemmas.List.Elements.{Contains-append_left, Contains-push, Contains-push_cases}
use Rattle.requisites.specs.Leads.{Leads}
use Rattle.requisites.specs.Nodes.{IsMarked, Links, mark_of}
use Rattle.install_order.proofs.RingFacts.{leads_joined}
use Rattle.requisites.proofs.SourceFacts.{marked_inside}
use Rattle.requisites.proofs.SweepFacts.{count_falls, mark_left, mark_stays}
use Rattle.install_order.specs.Rings.{ArePut, AreRings, AreRingsAfter, AreTakenOut, Goes, IsAnyLeft, IsNextRing, IsOfRing, IsRing}
use Rattle.install_order.specs.Steps.{IsClosed, StandsIn}

-- ---- steps

pub stands_before : (steps : List (List ℕ)) (step : List ℕ) (p : ℕ) → StandsIn steps p → StandsIn (steps ++ step ∷ []) p
stands_before steps step p stands = record { step = stands.step; listed = Contains-append_left steps (step ∷ []) stands.step stands.listed; member = stands.member }

pub stands_last : (steps : List (List ℕ)) (step : List ℕ) (p : ℕ) → Contains step p → StandsIn (steps ++ step ∷ []) p
stands_last steps step p member = record { step = step; listed = Contains-push steps step; member = member }

pub stands_cases : (steps : List (List ℕ)) (step : List ℕ) (p : ℕ) → StandsIn (steps ++ step ∷ []) p → StandsIn steps p ⊎ Contains step p
stands_cases steps step p stands = elim (Contains-push_cases steps step stands.step stands.listed) [
  | inl before ↦ inl (record { step = stands.step; listed = before; member = stands.member })
  | inr same ↦ inr (let P : List ℕ → Type 0 = λ l. Contains l p in subst P (sym same) stands.member)
]

in_order_more : (needs : List (List ℕ)) (n : ℕ) (before steps : List (List ℕ)) (step : List ℕ) → AreRingsAfter needs n before steps → IsNextRing needs n (before ++ steps) step → AreRingsAfter needs n before (steps ++ step ∷ [])
in_order_more needs n before [] step order next =
    let P : List (List ℕ) → Type 0 = λ l. IsNextRing needs n l step in
    let e : before ++ [] ≡ before = grind (arith, common_steps) in
    (subst P e next, tt)
in_order_more needs n before (first ∷ later) step order next =
    let P : List (List ℕ) → Type 0 = λ l. IsNextRing needs n l step in
    let e : before ++ first ∷ later ≡ (before ++ first ∷ []) ++ later = sym (append_assoc before (first ∷ []) later) in
    (order.0, in_order_more needs n (before ++ first ∷ []) later step order.1 (subst P e next))

-- ---- one step more

put_one : (needs : List (List ℕ)) (members left left' : List Bool) (steps : List (List ℕ)) (step : List ℕ) → IsClosed needs members → IsRing needs left step → AreTakenOut step left left' → ArePut needs members left steps → ArePut needs members left' (steps ++ step ∷ [])
put_one needs members left left' steps step closed ring out a = record {
  len = out.len ∙ a.len;
  order = in_order_more needs (length members) [] steps step a.order next;
  within = λ p marked. a.within p (out.falls p marked);
  whole = λ p member. elim (a.whole p member) [
    | inl marked ↦ elim (out.kept p marked) [
      | inl still ↦ inl still
      | inr gone ↦ inr (stands_last steps step p gone)
    ]
    | inr stands ↦ inr (stands_before steps step p stands)
  ];
  only = λ p stands. elim (stands_cases steps step p stands) [
    | inl before ↦ a.only p before
    | inr own ↦ a.within p (ring.marked p own)
  ];
  apart = λ p stands marked. elim (stands_cases steps step p stands) [
    | inl before ↦ a.apart p before (out.falls p marked)
    | inr own ↦ (let off : mark_of left' p ≡ false = out.gone p own in let on : mark_of left' p ≡ true = marked.is in cc)
  ];
} where
  next : IsNextRing needs (length members) steps step
  next = record {
    first = ring.first;
    begun = ring.begun;
    once = λ p member stands. a.apart p stands (ring.marked p member);
    needed = λ p q member link. elim (a.whole q (closed p q (a.within p (ring.marked p member)) link)) [
      | inl marked ↦ stands_last steps step q (ring.closed p q member (record { listed = link.listed; index = omega (arith, link.index, a.len) }) marked)
      | inr stands ↦ stands_before steps step q stands
    ];
    together = λ p q first second. (let P : ℕ → Type 0 = λ k. Leads (Links needs k) p q in subst P a.len (ring.together p q first second));
  }

pub goes_on : (needs : List (List ℕ)) (left left' : List Bool) (steps steps' : List (List ℕ)) (step : List ℕ) → steps' ≡ steps ++ step ∷ [] → IsRing needs left step → AreTakenOut step left left' → Goes needs left left' steps steps'
goes_on needs left left' steps steps' step e ring out = record {
  len = out.len;
  at_most = out.at_most;
  goes = λ members closed put.
      let P : List (List ℕ) → Type 0 = λ l. ArePut needs members left' l in
      subst P (sym e) (put_one needs members left left' steps step closed ring out put);
}

pub goes_nowhere : (needs : List (List ℕ)) (left : List Bool) (steps : List (List ℕ)) → Goes needs left left steps steps
goes_nowhere needs left steps = record { len = refl; at_most = omega arith; goes = λ members closed put. put }

pub goes_joined : (needs : List (List ℕ)) (a b c : List Bool) (x y z : List (List ℕ)) → Goes needs a b x y → Goes needs b c y z → Goes needs a c x z
goes_joined needs a b c x y z first second = record {
  len = second.len ∙ first.len;
  at_most = omega (arith, first.at_most, second.at_most);
  goes = λ members closed put. second.goes members closed (first.goes members closed put);
}

-- ---- what is taken out

pub out_none : (left : List Bool) → AreTakenOut [] left left
out_none left = record {
  len = refl;
  gone = λ p member. absurd (omega (arith, member.1));
  kept = λ p marked. inl marked;
  falls = λ p marked. marked;
  at_most = omega arith;
  fewer = λ p member marked. absurd (omega (arith, member.1));
}

-- one that is marked
pub out_more : (nodes : List ℕ) (old mid : List Bool) (i : ℕ) → IsMarked mid i → AreTakenOut nodes old mid → AreTakenOut (nodes ++ i ∷ []) old (set mid i false)
out_more nodes old mid i marked a = record {
  len = (let e : length (set mid i false) ≡ length mid = grind (arith, common_steps) in e ∙ a.len);
  gone = λ p member. elim (cases_eq p i) [
    | inl e ↦ (let P : ℕ → Type 0 = λ k. mark_of (set mid i false) k ≡ false in subst P (sym e) (get_or-set_same mid i false false inside))
    | inr ne ↦ elim (Contains-push_cases nodes i p member) [
      | inl before ↦ get_or-set_other mid i p false false ne ∙ a.gone p before
      | inr same ↦ absurd (ne (sym same))
    ]
  ];
  kept = λ p was. elim (a.kept p was) [
    | inl still ↦ elim (cases_eq p i) [
      | inl e ↦ inr (let P : ℕ → Type 0 = λ k. Contains (nodes ++ i ∷ []) k in subst P (sym e) (Contains-push nodes i))
      | inr ne ↦ inl (mark_stays mid i p ne still)
    ]
    | inr gone ↦ inr (Contains-append_left nodes (i ∷ []) p gone)
  ];
  falls = λ p on. a.falls p (mark_left mid i p inside on).1;
  at_most = omega (arith, count_falls mid i inside marked, a.at_most);
  fewer = λ p member was. omega (arith, count_falls mid i inside marked, a.at_most);
} where
  inside : i < length mid
  inside = marked_inside mid i marked

-- one that is not
pub out_same : (nodes : List ℕ) (old mid : List Bool) (i : ℕ) → mark_of mid i ≡ false → AreTakenOut nodes old mid → AreTakenOut (nodes ++ i ∷ []) old mid
out_same nodes old mid i off a = record {
  len = a.len;
  gone = λ p member. elim (Contains-push_cases nodes i p member) [
    | inl before ↦ a.gone p before
    | inr same ↦ (let P : ℕ → Type 0 = λ k. mark_of mid k ≡ false in subst P same off)
  ];
  kept = λ p was. elim (a.kept p was) [
    | inl still ↦ inl still
    | inr gone ↦ inr (Contains-append_left nodes (i ∷ []) p gone)
  ];
  falls = a.falls;
  at_most = a.at_most;
  fewer = λ p member was. elim (Contains-push_cases nodes i p member) [
    | inl before ↦ a.fewer p before was
    | inr same ↦ (let was_i : IsMarked old i = (let P : ℕ → Type 0 = λ k. IsMarked old k in subst P (sym same) was) in
        elim (a.kept i was_i) [
          | inl still ↦ absurd (let on : mark_of mid i ≡ true = still.is in cc)
          | inr gone ↦ a.fewer i gone was_i
        ])
  ];
}

pub out_step : (nodes : List ℕ) (i : ℕ) (old new new' : List Bool) → i < length nodes → new' ≡ new → AreTakenOut (take i nodes ++ get_or nodes i 0 ∷ []) old new → AreTakenOut (take (i + 1) nodes) old new'
out_step nodes i old new new' inside same a =
    let P : List Bool → Type 0 = λ l. AreTakenOut (take (i + 1) nodes) old l in
    subst P (sym same) (rw (take_more nodes i 0 inside) a)

pub out_all : (nodes : List ℕ) (i : ℕ) (old new : List Bool) → i ≡ length nodes → AreTakenOut (take i nodes) old new → AreTakenOut nodes old new
out_all nodes i old new end a = let P : List ℕ → Type 0 = λ l. AreTakenOut l old new in subst P (take_all i nodes (omega arith)) a

-- ---- all

pub put_begins : (needs : List (List ℕ)) (members : List Bool) → ArePut needs members members []
put_begins needs members = record {
  len = refl;
  order = tt;
  within = λ p marked. marked;
  whole = λ p marked. inl marked;
  only = λ p stands. absurd (omega (arith, stands.listed.1));
  apart = λ p stands marked. absurd (omega (arith, stands.listed.1));
}

pub all_put : (needs : List (List ℕ)) (members left : List Bool) (steps : List (List ℕ)) → (IsAnyLeft left → ⊥) → ArePut needs members left steps → AreRings needs members steps
all_put needs members left steps none a = record {
  order = a.order;
  whole = λ p member. elim (a.whole p member) [
    | inl marked ↦ absurd (none (record { node = p; marked = marked }))
    | inr stands ↦ stands
  ];
  only = a.only;
}

-- nodes of which each is tied to the first, and needs nothing else that is left, are a ring
pub ring_is : (needs : List (List ℕ)) (left : List Bool) (ring : List ℕ) (first : ℕ) → Contains ring first → ((p : ℕ) → Contains ring p → IsOfRing needs left ring first p) → IsRing needs left ring
ring_is needs left ring first begun each = record {
  first = first;
  begun = begun;
  marked = λ p member. (each p member).marked;
  closed = λ p q member link marked. (each p member).closed q link.listed marked;
  together = λ p q one other. leads_joined (each p one).back (each q other).leads;
}
