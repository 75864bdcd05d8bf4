-- Walks by picks, over nodes that are marked.
use Rattle.std.proofs.Common.{◌≡◌, ◌↔◌, ◌∙◌, ℕ, ◌+◌, ◌<◌, ◌≤◌, List, [], ◌∷◌, ◌++◌, Bool, true, false, cond, Option, length, get_or, set, replicate, take, refl, sym, ap, subst, inl, inr, arith}
use Rattle.std.specs.List.{Contains, filter}
use Rattle.std.specs.List.Sorted.{IsStrictlyIncreasing}
use Rattle.std.proofs.lemmas.Bool.{cases_eq, cases_lt}
use Rattle.std.proofs.lemmas.Grind.{common_steps}
use Rattle.std.proofs.lemmas.List.{append-nil, append_assoc, get_or-replicate, get_or-set_other, get_or-set_same, get_or_append_left, get_or_past, get_or_push, length-append, length-set, take_all, take_more}
use Rattle.std.proofs.lemmas.List.Elements.{Contains-append_cases, Contains-append_left, Contains-get_or, Contains-push, Contains-push_cases}
use Rattle.requisites.specs.Marking.{AreChosenMarks, AreMarked, IsPicking}
use Rattle.requisites.specs.Nodes.{IsMarked, mark_of, world}
use Rattle.requisites.specs.Picks.{ArePicksFor}
use Rattle.requisites.specs.Good.{AreGood}
use Rattle.requisites.specs.World.{AreChosenPlans, IsChosen, IsChosenPlan, IsGood, PicksFor}
use Rattle.requisites.specs.declared.nodes.Nodes.{Nodes}
use Rattle.requisites.proofs.LeadsFacts.{leads_closed, leads_itself, leads_more}
use Rattle.requisites.proofs.OrderFacts.{Takes, drawn_both, takes}
use Rattle.requisites.proofs.PlanFacts.{contains_cases, contains_first, contains_rest}
use Rattle.requisites.proofs.SpreadFacts.{in_one}
use Rattle.requisites.proofs.VerdictFacts.{good_inside, good_of_pick}

none_inside : (x : ℕ) → Contains [] x → ⊥
none_inside x inside = omega (arith, inside.1)

no_marks : (len p : ℕ) → IsMarked (replicate len false) p → ⊥
no_marks len p marked = let on : mark_of (replicate len false) p ≡ true = marked.is in let off = never in cc where
  never : mark_of (replicate len false) p ≡ false
  never = elim (cases_lt p len) [
    | inl inside ↦ get_or-replicate len p false false inside
    | inr past ↦ get_or_past (replicate len false) p false (let e : length (replicate len false) ≡ len = grind (arith, common_steps) in omega arith)
  ]

-- ---- nodes of a row

pub marked_none : (marks : List Bool) (order : List ℕ) → AreMarked [] marks marks order order
marked_none marks order = record {
  more = [];
  goes_on = sym (append-nil order);
  drawn = λ q inside. absurd (none_inside q inside);
  put = λ were. were;
  marked = λ were. were;
  whole = λ q inside within. absurd (none_inside q inside);
  stays = λ q is. is;
  len = refl;
}

-- a node that had no mark
pub marked_now : (node : ℕ) (marks : List Bool) (order order' : List ℕ) → node < length marks → order' ≡ order ++ node ∷ []
    → AreMarked (node ∷ []) marks (set marks node true) order order'
marked_now node marks order order' within now = record {
  more = node ∷ [];
  goes_on = now;
  drawn = λ q inside. inside;
  put = λ were q is. listed q (elim (cases_eq q node) [
    | inl same ↦ (let Q : ℕ → Type 0 = λ k. Contains (order ++ node ∷ []) k in subst Q (sym same) (Contains-push order node))
    | inr other ↦ Contains-append_left order (node ∷ []) q (were q (record { is = sym (elsewhere q other) ∙ is.is }))
  ]);
  marked = λ were q inside. (let P : List ℕ → Type 0 = λ l. Contains l q in elim (Contains-push_cases order node q (subst P now inside)) [
    | inl before ↦ kept q (were q before)
    | inr same ↦ (let Q : ℕ → Type 0 = λ k. IsMarked (set marks node true) k in subst Q same here)
  ]);
  whole = λ q inside below. (let Q : ℕ → Type 0 = λ k. IsMarked (set marks node true) k in subst Q (in_one node q inside) here);
  stays = kept;
  len = length-set marks node true;
} where
  listed : (q : ℕ) → Contains (order ++ node ∷ []) q → Contains order' q
  listed q inside = let P : List ℕ → Type 0 = λ l. Contains l q in subst P (sym now) inside

  elsewhere : (q : ℕ) → (q ≡ node → ⊥) → mark_of (set marks node true) q ≡ mark_of marks q
  elsewhere q other = get_or-set_other marks node q true false other

  here : IsMarked (set marks node true) node
  here = record { is = get_or-set_same marks node true false within }

  kept : (q : ℕ) → IsMarked marks q → IsMarked (set marks node true) q
  kept q is = elim (cases_eq q node) [
    | inl same ↦ (let Q : ℕ → Type 0 = λ k. IsMarked (set marks node true) k in subst Q (sym same) here)
    | inr other ↦ record { is = elsewhere q other ∙ is.is }
  ]

-- a node that has a mark, or that is no node
pub marked_before : (node : ℕ) (marks : List Bool) (order : List ℕ) → (node < length marks → mark_of marks node ≡ true) → AreMarked (node ∷ []) marks marks order order
marked_before node marks order here = record {
  more = [];
  goes_on = sym (append-nil order);
  drawn = λ q inside. absurd (none_inside q inside);
  put = λ were. were;
  marked = λ were. were;
  whole = λ q inside within. (let P : ℕ → Type 0 = λ k. k < length marks → mark_of marks k ≡ true in record { is = subst P (in_one node q inside) here within });
  stays = λ q is. is;
  len = refl;
}

pub marked_more : (listed : List ℕ) (i node : ℕ) (a b c : List Bool) (x y z : List ℕ) → i < length listed → node ≡ get_or listed i 0
    → AreMarked (take i listed) a b x y → AreMarked (node ∷ []) b c y z → AreMarked (take (i + 1) listed) a c x z
marked_more listed i node a b c x y z below at first second =
    let front : take (i + 1) listed ≡ take i listed ++ node ∷ [] = take_more listed i 0 below ∙ ap (λ k. take i listed ++ k ∷ []) (sym at) in
    let T : List ℕ → Type 0 = λ l. AreMarked l a c x z in
    subst T (sym front) (record {
      more = first.more ++ second.more;
      goes_on = second.goes_on ∙ ap (λ l. l ++ second.more) first.goes_on ∙ append_assoc x first.more second.more;
      drawn = drawn_both first.more second.more (take i listed) (node ∷ []) first.drawn second.drawn;
      put = λ were. second.put (first.put were);
      marked = λ were. second.marked (first.marked were);
      whole = λ q inside within. elim (Contains-append_cases (take i listed) (node ∷ []) q inside) [
        | inl before ↦ second.stays q (first.whole q before within)
        | inr now ↦ second.whole q now (omega (arith, within, first.len))
      ];
      stays = λ q is. second.stays q (first.stays q is);
      len = second.len ∙ first.len;
    })

pub marked_all : (listed : List ℕ) (i : ℕ) (a b : List Bool) (x y : List ℕ) → length listed ≤ i → AreMarked (take i listed) a b x y → AreMarked listed a b x y
marked_all listed i a b x y end marked = let T : List ℕ → Type 0 = λ l. AreMarked l a b x y in subst T (take_all i listed end) marked

-- ---- the walk

-- the good ones of some nodes, by their marks
pub record AreGoodOnes (nodes : Nodes) (starts good : List ℕ) : Type 0 where
  pub each : (x : ℕ) → Contains good x → Contains starts x × IsGood (world nodes) x
  pub whole : (x : ℕ) → Contains starts x → IsGood (world nodes) x → Contains good x

module _ (nodes : Nodes) (marks : List Bool) (givers : List (Option ℕ)) (are : AreGood nodes marks givers) where
  pub good_ones : (starts : List ℕ) → AreGoodOnes nodes starts (filter (λ node. mark_of marks node) starts)
  good_ones [] = record { each = λ x inside. absurd (none_inside x inside); whole = λ x inside is. absurd (none_inside x inside) }
  good_ones (s ∷ starts) = go (good_ones starts) (mark_of marks s) refl where
    go : AreGoodOnes nodes starts (filter (λ node. mark_of marks node) starts) → (b : Bool) → mark_of marks s ≡ b
        → AreGoodOnes nodes (s ∷ starts) (cond b (s ∷ filter (λ node. mark_of marks node) starts) (filter (λ node. mark_of marks node) starts))
    go rest true on = record {
      each = λ x inside. elim (contains_cases s x (filter (λ node. mark_of marks node) starts) inside) [
        | inl same ↦ (let P : ℕ → Type 0 = λ k. Contains (s ∷ starts) k × IsGood (world nodes) k in subst P same (contains_first s starts, are.marked s (record { is = on })))
        | inr later ↦ (let found = rest.each x later in (contains_rest s x starts found.0, found.1))
      ];
      whole = λ x inside is. elim (contains_cases s x starts inside) [
        | inl same ↦ (let P : ℕ → Type 0 = λ k. Contains (s ∷ filter (λ node. mark_of marks node) starts) k in subst P same (contains_first s (filter (λ node. mark_of marks node) starts)))
        | inr later ↦ contains_rest s x (filter (λ node. mark_of marks node) starts) (rest.whole x later is)
      ];
    }
    go rest false off = record {
      each = λ x inside. (let found = rest.each x inside in (contains_rest s x starts found.0, found.1));
      whole = λ x inside is. elim (contains_cases s x starts inside) [
        | inl same ↦ absurd (
            let P : ℕ → Type 0 = λ k. IsGood (world nodes) k in
            let on : mark_of marks s ≡ true = (are.unmarked s (subst P (sym same) is)).is in
            cc)
        | inr later ↦ rest.whole x later is
      ];
    }

module _ (nodes : Nodes) (starts : List ℕ) where
  pub picking_begins : (good : List ℕ) (marks : List Bool) (order : List ℕ) → AreGoodOnes nodes starts good
      → AreMarked good (replicate (length nodes.candidates.items) false) marks [] order → IsPicking nodes starts marks order 0
  picking_begins good marks order are first = record {
    begun = λ x inside is. put x (first.whole x (are.whole x inside is) (let within = good_inside nodes x is in omega (arith, within, blank)));
    put = put;
    marked = first.marked (λ q inside. absurd (none_inside q inside));
    followed = λ p z inside picks. absurd (none_inside p inside);
    chosen = λ q inside.
        (let P : List ℕ → Type 0 = λ l. Contains l q in
        let start = are.each q (first.drawn q (subst P first.goes_on inside)) in
        record { start = q; listed = start.0; good = start.1; chosen = leads_itself (PicksFor (world nodes)) q });
    within = omega arith;
    len = first.len ∙ blank;
  } where
    blank : length (replicate (length nodes.candidates.items) false) ≡ length nodes.candidates.items
    blank = grind (arith, common_steps)

    put : (q : ℕ) → IsMarked marks q → Contains order q
    put = first.put (λ q is. absurd (no_marks (length nodes.candidates.items) q is))

  pub picking_goes_on : (marks marks' : List Bool) (order order' own : List ℕ) (at next : ℕ) → at < length order → next ≡ get_or order at next
      → ArePicksFor nodes next own → AreMarked own marks marks' order order' → IsPicking nodes starts marks order at → IsPicking nodes starts marks' order' (at + 1)
  picking_goes_on marks marks' order order' own at next below is picks now was = record {
    begun = λ x inside good. on.kept x (was.begun x inside good);
    put = put;
    marked = now.marked was.marked;
    followed = λ p z inside picks_for. elim (on.taken p inside) [
      | inl before ↦ on.kept z (was.followed p z before picks_for)
      | inr same ↦
          let R : ℕ → Type 0 = λ k. PicksFor (world nodes) k z in
          let node = good_inside nodes z (good_of_pick nodes picks_for.need z picks_for.pick) in
          put z (now.whole z (picks.whole z (subst R (sym same) picks_for)) (omega (arith, node, was.len)))
    ];
    chosen = λ q inside. (
        let L : List ℕ → Type 0 = λ l. Contains l q in
        elim (Contains-append_cases order now.more q (subst L now.goes_on inside)) [
          | inl before ↦ was.chosen q before
          | inr later ↦ (
              let by = was.chosen next on.here in
              record { start = by.start; listed = by.listed; good = by.good; chosen = leads_more by.chosen (picks.picked q (now.drawn q later)) })
        ]);
    within = on.within;
    len = now.len ∙ was.len;
  } where
    put : (q : ℕ) → IsMarked marks' q → Contains order' q
    put = now.put was.put

    on : Takes order order' at next
    on = takes order order' now.more now.goes_on at next below is

  pub picking_ends : (marks : List Bool) (order : List ℕ) (at : ℕ) → length order ≤ at → IsPicking nodes starts marks order at → AreChosenMarks nodes starts marks
  picking_ends marks order at whole was = record {
    chosen = λ q is. was.chosen q (was.put q is);
    whole = λ q by. was.marked q (leads_closed (λ p. Contains order p) step (was.begun by.start by.listed by.good) by.chosen);
  } where
    step : (p z : ℕ) → Contains order p → PicksFor (world nodes) p z → Contains order z
    step p z here picks_for =
        let Q : List ℕ → Type 0 = λ l. Contains l p in
        was.followed p z (subst Q (sym (take_all at order whole)) here) picks_for

  -- the marked nodes are the chosen plans
  pub plans_marked : (marks : List Bool) (plans : List ℕ) → AreChosenMarks nodes starts marks
      → ((p : ℕ) → Contains plans p ↔ IsMarked marks p) → AreChosenPlans (world nodes) starts plans
  plans_marked marks plans chosen are = record {
    chosen = λ y inside. chosen.chosen y ((are y).0 inside);
    whole = λ y is. (are y).1 (chosen.whole y is);
  }

-- those of one good node are its chosen plan
pub plan_of_one : (nodes : Nodes) (x : ℕ) (plan : List ℕ) → IsGood (world nodes) x → AreChosenPlans (world nodes) (x ∷ []) plan → IsChosenPlan (world nodes) x plan
plan_of_one nodes x plan good are = record {
  good = good;
  chosen = λ y inside. (
      let by = are.chosen y inside in
      let P : ℕ → Type 0 = λ k. IsChosen (world nodes) k y in
      subst P (sym (in_one x by.start by.listed)) by.chosen);
  whole = λ y leads. are.whole y (record { start = x; listed = Contains-push [] x; good = good; chosen = leads });
}

-- ---- the marked nodes, ascending

-- a mark that is read through a reference
pub mark_read : (seen marks : List Bool) (i : ℕ) (b : Bool) → seen ≡ marks → mark_of seen i ≡ b → mark_of marks i ≡ b
mark_read seen marks i b same is = let P : List Bool → Type 0 = λ l. mark_of l i ≡ b in subst P same is

pub record AreMarkedBelow (marks : List Bool) (i : ℕ) (indices : List ℕ) : Type 0 where
  pub marked : (p : ℕ) → Contains indices p → IsMarked marks p
  pub below : (p : ℕ) → Contains indices p → p < i
  pub whole : (p : ℕ) → p < i → IsMarked marks p → Contains indices p
  pub ascends : IsStrictlyIncreasing indices

pub below_none : (marks : List Bool) → AreMarkedBelow marks 0 []
below_none marks = record {
  marked = λ p inside. absurd (none_inside p inside);
  below = λ p inside. absurd (none_inside p inside);
  whole = λ p h is. absurd (omega arith);
  ascends = λ k h. absurd (omega arith);
}

increasing_push : (xs : List ℕ) (y : ℕ) → IsStrictlyIncreasing xs → ((p : ℕ) → Contains xs p → p < y) → IsStrictlyIncreasing (xs ++ y ∷ [])
increasing_push xs y up below k h = elim (cases_lt (k + 1) (length xs)) [
  | inl inside ↦
      (let first : get_or (xs ++ y ∷ []) k 0 ≡ get_or xs k 0 = get_or_append_left xs (y ∷ []) 0 k (omega arith) in
      let second : get_or (xs ++ y ∷ []) (k + 1) 0 ≡ get_or xs (k + 1) 0 = get_or_append_left xs (y ∷ []) 0 (k + 1) inside in
      let order : get_or xs k 0 < get_or xs (k + 1) 0 = up k inside in
      omega arith)
  | inr past ↦
      (let len : length (xs ++ y ∷ []) ≡ length xs + 1 = length-append xs (y ∷ []) in
      let last : length xs ≡ k + 1 = omega arith in
      let first : get_or (xs ++ y ∷ []) k 0 ≡ get_or xs k 0 = get_or_append_left xs (y ∷ []) 0 k (omega arith) in
      let second : get_or (xs ++ y ∷ []) (k + 1) 0 ≡ y = get_or_push xs y 0 (k + 1) last in
      let order : get_or xs k 0 < y = below (get_or xs k 0) (Contains-get_or xs k 0 (omega arith)) in
      omega arith)
]

pub below_more : (marks : List Bool) (i : ℕ) (indices indices' : List ℕ) → indices' ≡ indices ++ i ∷ [] → mark_of marks i ≡ true → AreMarkedBelow marks i indices → AreMarkedBelow marks (i + 1) indices'
below_more marks i indices indices' now on was =
    let T : List ℕ → Type 0 = λ l. AreMarkedBelow marks (i + 1) l in
    subst T (sym now) (record {
      marked = λ p inside. elim (Contains-push_cases indices i p inside) [
        | inl before ↦ was.marked p before
        | inr same ↦ (let P : ℕ → Type 0 = λ k. IsMarked marks k in subst P same (record { is = on }))
      ];
      below = λ p inside. elim (Contains-push_cases indices i p inside) [
        | inl before ↦ omega (arith, was.below p before)
        | inr same ↦ omega arith
      ];
      whole = λ p h is. elim (cases_lt p i) [
        | inl before ↦ Contains-append_left indices (i ∷ []) p (was.whole p before is)
        | inr after ↦ (let same : i ≡ p = omega arith in let P : ℕ → Type 0 = λ k. Contains (indices ++ i ∷ []) k in subst P same (Contains-push indices i))
      ];
      ascends = increasing_push indices i was.ascends was.below;
    })

pub below_skip : (marks : List Bool) (i : ℕ) (indices indices' : List ℕ) → indices' ≡ indices → mark_of marks i ≡ false → AreMarkedBelow marks i indices → AreMarkedBelow marks (i + 1) indices'
below_skip marks i indices indices' same off was =
    let T : List ℕ → Type 0 = λ l. AreMarkedBelow marks (i + 1) l in
    subst T (sym same) (record {
      marked = was.marked;
      below = λ p inside. omega (arith, was.below p inside);
      whole = λ p h is. elim (cases_lt p i) [
        | inl before ↦ was.whole p before is
        | inr after ↦ absurd (
            let here : p ≡ i = omega arith in
            let P : ℕ → Type 0 = λ k. mark_of marks k ≡ true in
            let on : mark_of marks i ≡ true = subst P here is.is in
            cc)
      ];
      ascends = was.ascends;
    })

pub below_whole : (marks : List Bool) (i : ℕ) (indices : List ℕ) → length marks ≤ i → AreMarkedBelow marks i indices → (p : ℕ) → Contains indices p ↔ IsMarked marks p
below_whole marks i indices end was p = (was.marked p, λ is. was.whole p (inside is) is) where
  inside : IsMarked marks p → p < i
  inside is = elim (cases_lt p (length marks)) [
    | inl within ↦ omega arith
    | inr past ↦ absurd (
        let off : mark_of marks p ≡ false = get_or_past marks p false past in
        let on : mark_of marks p ≡ true = is.is in
        cc)
  ]
