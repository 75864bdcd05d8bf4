-- What falls and what closes.
use Rattle.std.proofs.Common.{◌≡◌, ℕ, ◌+◌, ◌*◌, ◌<◌, ◌≤◌, ◌^◌, ◌⊎◌, List, [], Bool, true, false, length, get_or, set, take, replicate, refl, sym, ◌∙◌, subst, inl, inr, arith}
use Rattle.std.specs.List.{Contains}
use Rattle.std.proofs.lemmas.Bool.{cases_eq}
use Rattle.std.proofs.lemmas.Grind.{common_steps}
use Rattle.std.proofs.lemmas.List.{get_or-replicate, take_all, take_more}
use Rattle.std.proofs.lemmas.List.Elements.{Contains-push_cases}
use Rattle.requisites.specs.Leads.{Leads}
use Rattle.requisites.specs.World.{IsGood, IsGoodGiver}
use Rattle.requisites.specs.Nodes.{AreReversed, IsMarked, Links, mark_of, row, world}
use Rattle.requisites.specs.Good.{AreClosedBut, AreMarksLeft, AreOpen, AreShutOff, AreUngiven, AreUnmarked, CanClose, ComesNearer, HasClosedNeed, IsShut, marked_count}
use Rattle.requisites.specs.declared.nodes.Nodes.{Nodes}
use Rattle.requisites.proofs.LeadsFacts.{leads_closed, leads_itself, leads_last, leads_more}
use Rattle.requisites.proofs.PickFacts.{unmarked}
use Rattle.requisites.proofs.SourceFacts.{marked_inside}
use Rattle.requisites.proofs.SweepFacts.{count_falls, mark_left, mark_stays}
use Rattle.requisites.proofs.VerdictFacts.{good_inside}

-- ---- nodes read one after the other

pub unmarked_none : (marks : List Bool) → AreUnmarked marks []
unmarked_none marks = record { each = λ p inside. absurd (omega (arith, inside.1)) }

pub unmarked_more : (marks : List Bool) (indices : List ℕ) (i : ℕ) → i < length indices → AreUnmarked marks (take i indices) → mark_of marks (get_or indices i 0) ≡ false → AreUnmarked marks (take (i + 1) indices)
unmarked_more marks indices i h a off = rw (take_more indices i 0 h) (record {
  each = λ p inside. elim (Contains-push_cases (take i indices) (get_or indices i 0) p inside) [
    | inl before ↦ a.each p before
    | inr same ↦ (let P : ℕ → Type 0 = λ k. mark_of marks k ≡ false in subst P same off)
  ];
})

pub unmarked_all : (marks : List Bool) (indices : List ℕ) (i : ℕ) → length indices ≤ i → AreUnmarked marks (take i indices) → AreUnmarked marks indices
unmarked_all marks indices i h a = let P : List ℕ → Type 0 = λ l. AreUnmarked marks l in subst P (take_all i indices h) a

-- ---- what falls

-- a good node has no closed need
good_needs_open : (nodes : Nodes) (opens : List Bool) (p : ℕ) → AreOpen nodes opens → IsGood (world nodes) p → HasClosedNeed nodes opens p → ⊥
good_needs_open nodes opens p a good closed = elim (good.plan.needs_met p closed.need good.member closed.needs) [
  | inl there ↦ unmarked nodes.there.items closed.need closed.absent there
  | inr given ↦ unmarked opens closed.need closed.closed (a.given closed.need given.giver (record {
    good = record { members = good.members; plan = good.plan; member = given.member };
    gives = given.gives;
  }))
]

pub left_falls : (nodes : Nodes) (opens marks : List Bool) (p : ℕ) → p < length marks → AreMarksLeft nodes marks → AreOpen nodes opens → HasClosedNeed nodes opens p → AreMarksLeft nodes (set marks p false)
left_falls nodes opens marks p h left a closed = record {
  len = (let e : length (set marks p false) ≡ length marks = grind (arith, common_steps) in e ∙ left.len);
  candidates = λ q marked. left.candidates q (mark_left marks p q h marked).1;
  keep = λ q good. elim (cases_eq q p) [
    | inl e ↦ absurd (good_needs_open nodes opens p a (let P : ℕ → Type 0 = λ k. IsGood (world nodes) k in subst P e good) closed)
    | inr ne ↦ mark_stays marks p q ne (left.keep q good)
  ];
}

pub left_falls_inside : (nodes : Nodes) (opens marks : List Bool) (p : ℕ) → mark_of marks p ≡ true → AreMarksLeft nodes marks → AreOpen nodes opens → HasClosedNeed nodes opens p → AreMarksLeft nodes (set marks p false)
left_falls_inside nodes opens marks p on left a closed = left_falls nodes opens marks p (marked_inside marks p (record { is = on })) left a closed

-- ---- what closes

-- no good node gives one of a ring that can close
pub ring_ungiven : (nodes : Nodes) (superseders : List (List ℕ)) (marks opens : List Bool) (ring : List ℕ) (p : ℕ) → AreReversed nodes.supersedes (length nodes.candidates.items) superseders → AreMarksLeft nodes marks → AreOpen nodes opens → CanClose superseders marks opens ring p → AreUngiven nodes ring
ring_ungiven nodes superseders marks opens ring p turned left a can = record {
  each = λ r z inside giver. (leads_closed (Outside z) (handed z giver.good) (λ stands. unmarked marks z (can.unmarked.each z stands) (left.keep z giver.good), leads_itself Step z) giver.gives).0 inside;
} where
  Step : ℕ → ℕ → Type 0
  Step = Links nodes.supersedes (length nodes.candidates.items)

  -- z leads to q, which is none of the ring
  Outside : ℕ → ℕ → Type 0
  Outside z q = (Contains ring q → ⊥) × Leads Step z q

  handed : (z : ℕ) → IsGood (world nodes) z → (u v : ℕ) → Outside z u → Step u v → Outside z v
  handed z good u v held link = (
    λ stands. elim ((can.above.each v stands).each u (turned.turned u v link)) [
      | inl closed ↦ unmarked opens u closed (a.given u z (record { good = good; gives = held.1 }))
      | inr member ↦ held.0 member
    ],
    leads_more held.1 link,
  )

-- what no good node gives may close
pub open_shut : (nodes : Nodes) (ring : List ℕ) (old new : List Bool) (p : ℕ) → AreUngiven nodes ring → Contains ring p → AreOpen nodes old → IsShut p old new → AreOpen nodes new
open_shut nodes ring old new p none inside a shut = record {
  given = λ r z giver. elim (cases_eq r p) [
    | inl e ↦ absurd (none.each p z inside (let P : ℕ → Type 0 = λ k. IsGoodGiver (world nodes) k z in subst P e giver))
    | inr ne ↦ shut.others r ne (a.given r z giver)
  ];
}

pub shut_one : (opens : List Bool) (p : ℕ) → p < length opens → IsMarked opens p → IsShut p opens (set opens p false)
shut_one opens p h marked = record { others = λ q ne was. mark_stays opens p q ne was; fewer = omega (arith, count_falls opens p h marked) }

pub shut_none : (opens : List Bool) (p : ℕ) → IsShut p opens opens
shut_none opens p = record { others = λ q ne was. was; fewer = omega arith }

-- a ring that is read through references can close
pub ring_read : (nodes : Nodes) (superseders : List (List ℕ)) (marks opens read : List Bool) (ring : List ℕ) (p : ℕ) → read ≡ opens → AreReversed nodes.supersedes (length nodes.candidates.items) superseders → AreMarksLeft nodes marks → AreOpen nodes opens → CanClose superseders marks read ring p → AreUngiven nodes ring
ring_read nodes superseders marks opens read ring p same turned left a can =
    ring_ungiven nodes superseders marks opens ring p turned left a (let P : List Bool → Type 0 = λ o. CanClose superseders marks o ring p in subst P same can)

pub ring_begins : (nodes : Nodes) (superseders : List (List ℕ)) (marks opens read : List Bool) (ring : List ℕ) (p : ℕ) → read ≡ opens → AreReversed nodes.supersedes (length nodes.candidates.items) superseders → AreMarksLeft nodes marks → AreOpen nodes opens → CanClose superseders marks read ring p → AreOpen nodes (set opens p false)
ring_begins nodes superseders marks opens read ring p same turned left a can =
    let here = (let P : List Bool → Type 0 = λ o. CanClose superseders marks o ring p in subst P same can) in
    open_shut nodes ring opens (set opens p false) p (ring_ungiven nodes superseders marks opens ring p turned left a here) here.member a (shut_one opens p here.index here.was_open)

-- ---- nodes of a ring read one after the other

pub closed_but_none : (opens : List Bool) (ring : List ℕ) → AreClosedBut opens ring []
closed_but_none opens ring = record { each = λ p inside. absurd (omega (arith, inside.1)) }

pub closed_but_more : (opens : List Bool) (ring indices : List ℕ) (i : ℕ) → i < length indices → AreClosedBut opens ring (take i indices) → (mark_of opens (get_or indices i 0) ≡ false) ⊎ Contains ring (get_or indices i 0) → AreClosedBut opens ring (take (i + 1) indices)
closed_but_more opens ring indices i h a so = rw (take_more indices i 0 h) (record {
  each = λ p inside. elim (Contains-push_cases (take i indices) (get_or indices i 0) p inside) [
    | inl before ↦ a.each p before
    | inr same ↦ (let P : ℕ → Type 0 = λ k. (mark_of opens k ≡ false) ⊎ Contains ring k in subst P same so)
  ];
})

pub closed_but_all : (opens : List Bool) (ring indices : List ℕ) (i : ℕ) → length indices ≤ i → AreClosedBut opens ring (take i indices) → AreClosedBut opens ring indices
closed_but_all opens ring indices i h a = let P : List ℕ → Type 0 = λ l. AreClosedBut opens ring l in subst P (take_all i indices h) a

pub shut_off_none : (superseders : List (List ℕ)) (opens : List Bool) (ring : List ℕ) → AreShutOff superseders opens ring []
shut_off_none superseders opens ring = record { each = λ p inside. absurd (omega (arith, inside.1)) }

pub shut_off_more : (superseders : List (List ℕ)) (opens : List Bool) (ring indices above : List ℕ) (i : ℕ) → i < length indices → AreShutOff superseders opens ring (take i indices) → above ≡ row superseders (get_or indices i 0) → AreClosedBut opens ring above → AreShutOff superseders opens ring (take (i + 1) indices)
shut_off_more superseders opens ring indices above i h a same so = rw (take_more indices i 0 h) (record {
  each = λ p inside. elim (Contains-push_cases (take i indices) (get_or indices i 0) p inside) [
    | inl before ↦ a.each p before
    | inr at ↦ (let P : ℕ → Type 0 = λ k. AreClosedBut opens ring (row superseders k) in let Q : List ℕ → Type 0 = λ l. AreClosedBut opens ring l in subst P at (subst Q same so))
  ];
})

pub shut_off_all : (superseders : List (List ℕ)) (opens : List Bool) (ring indices : List ℕ) (i : ℕ) → length indices ≤ i → AreShutOff superseders opens ring (take i indices) → AreShutOff superseders opens ring indices
shut_off_all superseders opens ring indices i h a = let P : List ℕ → Type 0 = λ l. AreShutOff superseders opens ring l in subst P (take_all i indices h) a

-- closing brings the end nearer
pub closing_is_nearer : (opens : List Bool) (p work work' : ℕ) → p < length opens → IsMarked opens p → ComesNearer opens (set opens p false) work work'
closing_is_nearer opens p work work' h marked = inl (count_falls opens p h marked)

-- so does the closing of a ring with an open node
pub ring_is_nearer : (opens read new : List Bool) {superseders : List (List ℕ)} {marks : List Bool} {ring : List ℕ} (p work work' : ℕ) → read ≡ opens → CanClose superseders marks read ring p → marked_count new ≤ marked_count (set opens p false) → ComesNearer opens new work work'
ring_is_nearer opens read new {superseders} {marks} {ring} p work work' same can fewer =
    let here = (let P : List Bool → Type 0 = λ o. CanClose superseders marks o ring p in subst P same can) in
    inl (omega (arith, count_falls opens p here.index here.was_open, fewer))

pub same_is_near : (opens : List Bool) (work work' : ℕ) → work' ≤ work → ComesNearer opens opens work work'
same_is_near opens work work' h = inr (refl, h)

-- all is open at first
pub open_begins : (nodes : Nodes) (n : ℕ) → n ≡ length nodes.candidates.items → AreOpen nodes (replicate n true)
open_begins nodes n len = record {
  given = λ r z giver. record { is = get_or-replicate n r true false (inside r z giver) };
} where
  inside : (r z : ℕ) → IsGoodGiver (world nodes) r z → r < n
  inside r z giver = elim (leads_last giver.gives) [
    | inl same ↦ (let h : z < length nodes.candidates.items = good_inside nodes z giver.good in omega arith)
    | inr last ↦ omega (arith, last.step.index)
  ]

-- the measure falls where the end comes nearer
pub nearer_falls : (old new : List Bool) (before rest after : ℕ) → ComesNearer old new rest after → rest + 1 ≡ before → after < 2 ^ 64 → marked_count new * 2 ^ 64 + after < marked_count old * 2 ^ 64 + before
nearer_falls old new before rest after (inl fewer) e fits = omega (arith, fewer, fits, e)
nearer_falls old new before rest after (inr same) e fits = let count : marked_count new ≡ marked_count old = same.0 in let less : after ≤ rest = same.1 in rw count (omega arith)

-- what holds between two looks
pub record AreLooked (nodes : Nodes) (old new opens : List Bool) : Type 0 where
  pub left : AreMarksLeft nodes new
  pub opens_left : AreOpen nodes opens
  pub fewer : marked_count new ≤ marked_count old

pub looked_more : (nodes : Nodes) (old mid new opens : List Bool) → marked_count mid ≤ marked_count old → AreMarksLeft nodes new → AreOpen nodes opens → marked_count new ≤ marked_count mid → AreLooked nodes old new opens
looked_more nodes old mid new opens before left a after = record { left = left; opens_left = a; fewer = omega arith }

pub looked_first : (nodes : Nodes) (marks opens : List Bool) → AreMarksLeft nodes marks → opens ≡ replicate (length marks) true → AreLooked nodes marks marks opens
looked_first nodes marks opens left same = record {
  left = left;
  opens_left = (let P : List Bool → Type 0 = λ o. AreOpen nodes o in subst P (sym same) (open_begins nodes (length marks) left.len));
  fewer = omega arith;
}
