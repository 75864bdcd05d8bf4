-- By their levels nodes stand in the steps in which they are installed.
use Rattle.std.proofs.Common.{◌≡◌, ◌||◌, ℕ, zero, suc, ◌+◌, ◌-◌, ◌<◌, ◌≤◌, Bool, true, false, List, [], ◌∷◌, Option, Some, None, map, length, refl, sym, ◌∙◌, ap, subst, inl, inr, arith}
use Rattle.std.specs.Prelude.{◌==◌, nat_lt, not}
use Rattle.std.specs.List.{Contains, filter, range_with_len}
use Rattle.std.specs.List.Sorted.{IsStrictlyIncreasing}
use Rattle.std.proofs.lemmas.Bool.{cases_eq, cases_lt}
use Rattle.std.proofs.lemmas.Bool.Decides.{nat_tests}
use Rattle.std.proofs.lemmas.List.{get_or_past}
use Rattle.std.proofs.lemmas.List.Elements.{filter_agree}
use Rattle.std.proofs.lemmas.List.Filters.{length-filter_both}
use Rattle.std.proofs.lemmas.List.FromFn.{get_or-range_with_len, length-range_with_len, map-range_with_len_more}
use Rattle.std.proofs.lemmas.List.Kept.{IsStrictlyIncreasing-filter}
use Rattle.lemmas.proofs.ListFacts.{all_at, all_from, first_inside, kept_from, kept_inside, map_from, map_inside}
use Rattle.requisites.specs.Leads.{Leads}
use Rattle.requisites.specs.Nodes.{IsMarked, Links, mark_of}
use Rattle.requisites.proofs.LeadsFacts.{leads_closed, leads_itself}
use Rattle.requisites.proofs.SourceFacts.{marked_inside}
use Rattle.install_order.specs.Levels.{AreCounted, AreLevels, AreRows, Falls, has_level, level_of, nodes_with}
use Rattle.install_order.specs.Rings.{AreRings, AreRingsAfter}
use Rattle.install_order.specs.Steps.{AreInOrder, AreNext, AreSteps, IsNext, IsTestOf, StandsIn, marked_in, may_come, steps_of}
use Rattle.install_order.proofs.ListFacts.{filter_twice, in_range, range_has}
use Rattle.install_order.proofs.ReadFacts.{none_in}
use Rattle.install_order.proofs.RingFacts.{leads_joined}

-- whether a node has a level from a number on
abbrev at_least : ℕ → Option ℕ → Bool
at_least k None = false
at_least k (Some level) = not (nat_lt level k)

module _ (needs : List (List ℕ)) (members : List Bool) (levels : List (Option ℕ)) (a : AreLevels needs (length members) (IsMarked members) levels) where
  -- ---- where needs lead

  -- to levels that are less, or back from the same
  down : (p q level : ℕ) → level_of levels p ≡ Some level → Leads (Links needs (length members)) p q → Falls needs (length members) levels p level q
  down p q level is leads =
      leads_closed (λ z. Falls needs (length members) levels p level z) on (record { below = level; is = is; falls = inr (refl, leads_itself (Links needs (length members)) p) }) leads
    where
      on : (u v : ℕ) → Falls needs (length members) levels p level u → Links needs (length members) u v → Falls needs (length members) levels p level v
      on u v was link =
          let next = a.falls u v was.below was.is link in
          record {
            below = next.below;
            is = next.is;
            falls = elim was.falls [
              | inl less ↦ elim next.falls [
                | inl lower ↦ inl (omega arith)
                | inr same ↦ inl (let e = same.0 in omega arith)
              ]
              | inr level_is ↦ elim next.falls [
                | inl lower ↦ inl (let e = level_is.0 in omega arith)
                | inr same ↦ inr (same.0 ∙ level_is.0, leads_joined same.1 level_is.1)
              ]
            ];
          }

  record LeadsTo (p level : ℕ) : Type 0 where
    to : ℕ
    is : level_of levels to ≡ Some level
    leads : Leads (Links needs (length members)) p to

  -- from a level to each that is less
  to_each : (level p k : ℕ) → level_of levels p ≡ Some level → k ≤ level → LeadsTo p k
  to_each zero p k is less = let P : ℕ → Type 0 = λ l. level_of levels p ≡ Some l in let e : 0 ≡ k = omega arith in record { to = p; is = subst P e is; leads = leads_itself (Links needs (length members)) p }
  to_each (suc level) p k is less = elim (cases_eq k (suc level)) [
    | inl e ↦ (let P : ℕ → Type 0 = λ l. level_of levels p ≡ Some l in record { to = p; is = subst P (sym e) is; leads = leads_itself (Links needs (length members)) p })
    | inr ne ↦
        (let rest = a.rests p level is in
        let further = to_each level rest.on k rest.is (omega arith) in
        record { to = further.to; is = further.is; leads = leads_joined rest.leads further.leads })
  ]

  -- ---- those that are left

  abbrev left_from : ℕ → List ℕ
  left_from k = filter (λ p. at_least k (level_of levels p)) (range_with_len 0 (length levels))

  has_it : (o : Option ℕ) (k : ℕ) → has_level o k ≡ true → o ≡ Some k
  has_it None k h = absurd (cc)
  has_it (Some own) k h = let e : own ≡ k = grind (arith, nat_tests) in ap Some e

  it_has : (o : Option ℕ) (k : ℕ) → o ≡ Some k → has_level o k ≡ true
  it_has None k e = absurd (cc)
  it_has (Some own) k e = let same : own ≡ k = cc in grind (arith, nat_tests)

  record IsFrom (k : ℕ) (o : Option ℕ) : Type 0 where
    level : ℕ
    is : o ≡ Some level
    from : k ≤ level

  from_test : (k : ℕ) (o : Option ℕ) → at_least k o ≡ true → IsFrom k o
  from_test k None h = absurd (cc)
  from_test k (Some level) h = record { level = level; is = refl; from = grind (arith, nat_tests) }

  test_from : (k level : ℕ) (o : Option ℕ) → o ≡ Some level → k ≤ level → at_least k o ≡ true
  test_from k level None e less = absurd (cc)
  test_from k level (Some own) e less = let same : own ≡ level = cc in grind (arith, nat_tests)

  inside : (p level : ℕ) → level_of levels p ≡ Some level → p < length levels
  inside p level is = elim (cases_lt p (length levels)) [
    | inl in_it ↦ in_it
    | inr past ↦ absurd (let none : level_of levels p ≡ None = get_or_past levels p None past in cc)
  ]

  in_left : (k p level : ℕ) → level_of levels p ≡ Some level → k ≤ level → Contains (left_from k) p
  in_left k p level is less =
      kept_inside (λ p. at_least k (level_of levels p)) (range_with_len 0 (length levels)) p (range_has 0 (length levels) p (omega arith) (omega (arith, inside p level is))) (test_from k level (level_of levels p) is less)

  from_left : (k p : ℕ) → Contains (left_from k) p → IsFrom k (level_of levels p)
  from_left k p member = from_test k (level_of levels p) (kept_from (λ p. at_least k (level_of levels p)) (range_with_len 0 (length levels)) p member).passes

  -- ---- what may come

  module _ (leads : ℕ → ℕ → Bool) (test : IsTestOf needs members leads) where
    unless : (b c : Bool) → (b ≡ true → c ≡ true) → (not b || c) ≡ true
    unless true c then = then refl
    unless false c then = refl

    then_so : (b c : Bool) → (not b || c) ≡ true → b ≡ true → c ≡ true
    then_so true c h on = h
    then_so false c h on = absurd (cc)

    comes : (k p : ℕ) → level_of levels p ≡ Some k → may_come leads (left_from k) p ≡ true
    comes k p is = all_from (λ other. not (leads p other) || leads other p) (left_from k) each where
      each : (q : ℕ) → Contains (left_from k) q → (not (leads p q) || leads q p) ≡ true
      each q member = unless (leads p q) (leads q p) (λ on.
          let from = from_left k q member in
          let one = a.only p k is in
          let other = a.only q from.level from.is in
          let falls = down p q k is ((test p q one other).0 on) in
          let same : falls.below ≡ from.level = (let e = falls.is in let f = from.is in cc) in
          elim falls.falls [
            | inl less ↦ absurd (let low = from.from in omega arith)
            | inr back ↦ (test q p other one).1 back.1
          ])

    waits : (k p level : ℕ) → level_of levels p ≡ Some level → k < level → may_come leads (left_from k) p ≡ true → ⊥
    waits k p level is more on =
        let to = to_each level p k is (omega arith) in
        let one = a.only p level is in
        let other = a.only to.to k to.is in
        let back = then_so (leads p to.to) (leads to.to p) (all_at (λ other. not (leads p other) || leads other p) (left_from k) to.to on (in_left k to.to k to.is (omega arith))) ((test p to.to one other).1 to.leads) in
        let falls = down to.to p k to.is ((test to.to p other one).0 back) in
        let same : falls.below ≡ level = (let e = falls.is in cc) in
        elim falls.falls [
          | inl less ↦ omega arith
          | inr equal ↦ (let e = equal.0 in omega arith)
        ]

    is_false : (b : Bool) → (b ≡ true → ⊥) → b ≡ false
    is_false true none = absurd (none refl)
    is_false false none = refl

    -- it is just those of the level
    comes_is : (k p : ℕ) (o : Option ℕ) → level_of levels p ≡ o → at_least k o ≡ true → may_come leads (left_from k) p ≡ has_level o k
    comes_is k p None e h = absurd (cc)
    comes_is k p (Some level) e h =
        let from = from_test k (Some level) h in
        let same : from.level ≡ level = (let f = from.is in cc) in
        elim (cases_eq level k) [
          | inl here ↦ comes k p (e ∙ ap Some here) ∙ sym (it_has (Some level) k (ap Some here))
          | inr other ↦
              is_false (may_come leads (left_from k) p) (waits k p level e (let low = from.from in omega arith))
              ∙ sym (is_false (level == k) (λ on. let here : level ≡ k = grind (arith, nat_tests) in other here))
        ]

    none_has : (k : ℕ) (o : Option ℕ) → at_least k o ≡ false → has_level o k ≡ false
    none_has k None h = refl
    none_has k (Some level) h = grind (arith, nat_tests)

    step_is : (k : ℕ) → filter (may_come leads (left_from k)) (left_from k) ≡ nodes_with levels (length levels) k
    step_is k =
        filter_twice (may_come leads (left_from k)) (λ p. at_least k (level_of levels p)) (λ p. has_level (level_of levels p) k) (range_with_len 0 (length levels))
        (λ p member on. comes_is k p (level_of levels p) refl on) (λ p off. none_has k (level_of levels p) off)

    next_is : (k p : ℕ) (o : Option ℕ) → level_of levels p ≡ o → at_least k o ≡ true → not (may_come leads (left_from k) p) ≡ at_least (k + 1) o
    next_is k p o e h = ap not (comes_is k p o e h) ∙ split o h where
      split : (o : Option ℕ) → at_least k o ≡ true → not (has_level o k) ≡ at_least (k + 1) o
      split None h = absurd (cc)
      split (Some level) h = grind (arith, nat_tests)

    less_from : (k : ℕ) (o : Option ℕ) → at_least k o ≡ false → at_least (k + 1) o ≡ false
    less_from k None h = refl
    less_from k (Some level) h = grind (arith, nat_tests)

    rest_is : (k : ℕ) → filter (λ p. not (may_come leads (left_from k) p)) (left_from k) ≡ left_from (k + 1)
    rest_is k =
        filter_twice (λ p. not (may_come leads (left_from k) p)) (λ p. at_least k (level_of levels p)) (λ p. at_least (k + 1) (level_of levels p)) (range_with_len 0 (length levels))
        (λ p member on. next_is k p (level_of levels p) refl on) (λ p off. less_from k (level_of levels p) off)

    -- ---- all steps

    module _ (count : ℕ) (counted : AreCounted levels count) where
      -- a level below the count has a node
      has_node : (k : ℕ) → k < count → (p : ℕ) × (level_of levels p ≡ Some k)
      has_node k less = elim counted.last [
        | inl none ↦ absurd (omega arith)
        | inr last ↦ (let e = last.next in let to = to_each last.last last.node k last.is (omega arith) in (to.to, to.is))
      ]

      none_left : (xs : List ℕ) → ((p : ℕ) → Contains xs p → ⊥) → xs ≡ []
      none_left [] none = refl
      none_left (x ∷ xs) none = absurd (none x (first_inside x xs))

      nothing_left : (k : ℕ) → count ≤ k → left_from k ≡ []
      nothing_left k past = none_left (left_from k) (λ p member. let from = from_left k p member in let low = counted.above p from.level from.is in let high = from.from in omega arith)

      one_step : (most : ℕ) (left : List ℕ) (p : ℕ) → Contains left p
          → steps_of leads (suc most) left ≡ filter (may_come leads left) left ∷ steps_of leads most (filter (λ one. not (may_come leads left one)) left)
      one_step most [] p member = none_in p member
      one_step most (x ∷ xs) p member = refl

      no_step : (most : ℕ) (left : List ℕ) → left ≡ [] → steps_of leads most left ≡ []
      no_step zero left e = refl
      no_step (suc most) [] e = refl
      no_step (suc most) (x ∷ xs) e = absurd (cc)

      member_len : {X : Type 0} (xs : List X) (x : X) → Contains xs x → 0 < length xs
      member_len xs x member = let inside = member.1 in omega arith

      fewer : (k : ℕ) → k < count → length (left_from (k + 1)) < length (left_from k)
      fewer k less =
          let node = has_node k less in
          let both = length-filter_both (may_come leads (left_from k)) (λ p. not (may_come leads (left_from k) p)) (λ x. refl) (left_from k) in
          let here : Contains (filter (may_come leads (left_from k)) (left_from k)) node.0 = kept_inside (may_come leads (left_from k)) (left_from k) node.0 (in_left k node.0 k node.1 (omega arith)) (comes k node.0 node.1) in
          let some = member_len (filter (may_come leads (left_from k)) (left_from k)) node.0 here in
          let same : length (filter (λ p. not (may_come leads (left_from k) p)) (left_from k)) ≡ length (left_from (k + 1)) = ap length (rest_is k) in
          omega arith

      -- the steps from a level on, of which there are some more
      all_steps : (more k most : ℕ) → k + more ≡ count → length (left_from k) ≤ most
          → map (nodes_with levels (length levels)) (range_with_len k more) ≡ steps_of leads most (left_from k)
      all_steps zero k most end few = sym (no_step most (left_from k) (nothing_left k (omega arith)))
      all_steps (suc more) k zero end few =
          absurd (let node = has_node k (omega arith) in let some = member_len (left_from k) node.0 (in_left k node.0 k node.1 (omega arith)) in omega arith)
      all_steps (suc more) k (suc most) end few =
          let node = has_node k (omega arith) in
          let less = fewer k (omega arith) in
          let later = all_steps more (k + 1) most (omega arith) (omega arith) in
          let S : List ℕ → List (List ℕ) = λ l. steps_of leads most l in
          sym (
          one_step most (left_from k) node.0 (in_left k node.0 k node.1 (omega arith))
          ∙ ap (λ first. first ∷ steps_of leads most (filter (λ one. not (may_come leads (left_from k) one)) (left_from k))) (step_is k)
          ∙ ap (λ rest. nodes_with levels (length levels) k ∷ S rest) (rest_is k)
          ∙ ap (λ steps. nodes_with levels (length levels) k ∷ steps) (sym later)
          )

      -- the marked nodes are those that have a level
      marked_is : (p : ℕ) (b : Bool) (o : Option ℕ) → mark_of members p ≡ b → level_of levels p ≡ o → mark_of members p ≡ at_least 0 o
      marked_is p true None e f = absurd (a.whole p (record { is = e }) f)
      marked_is p true (Some level) e f = e ∙ sym (test_from 0 level (Some level) refl (omega arith))
      marked_is p false None e f = e
      marked_is p false (Some level) e f = absurd (let on = (a.only p level f).is in cc)

      marked_left : marked_in members ≡ left_from 0
      marked_left =
          let N : ℕ → List ℕ = λ n. filter (mark_of members) (range_with_len 0 n) in
          ap N (sym a.len) ∙ filter_agree (mark_of members) (λ p. at_least 0 (level_of levels p)) (λ p. marked_is p (mark_of members p) (level_of levels p) refl refl) (range_with_len 0 (length levels))

      few_marked : length (left_from 0) ≤ length members
      few_marked =
          let both = length-filter_both (λ p. at_least 0 (level_of levels p)) (λ p. not (at_least 0 (level_of levels p))) (λ x. refl) (range_with_len 0 (length levels)) in
          let all = length-range_with_len 0 (length levels) in
          omega (arith, a.len)

      pub steps_are : map (nodes_with levels (length levels)) (range_with_len 0 count) ≡ steps_of leads (length members) (marked_in members)
      steps_are = all_steps count 0 (length members) (omega arith) few_marked ∙ ap (λ left. steps_of leads (length members) left) (sym marked_left)

  -- ---- their order

  module _ (count : ℕ) (counted : AreCounted levels count) where
    abbrev rows_to : ℕ → List (List ℕ)
    rows_to k = map (nodes_with levels (length levels)) (range_with_len 0 k)

    in_row : (k p : ℕ) → Contains (nodes_with levels (length levels) k) p → level_of levels p ≡ Some k
    in_row k p member = has_it (level_of levels p) k (kept_from (λ p. has_level (level_of levels p) k) (range_with_len 0 (length levels)) p member).passes

    row_has : (k p : ℕ) → level_of levels p ≡ Some k → Contains (nodes_with levels (length levels) k) p
    row_has k p is = kept_inside (λ p. has_level (level_of levels p) k) (range_with_len 0 (length levels)) p (range_has 0 (length levels) p (omega arith) (omega (arith, inside p k is))) (it_has (level_of levels p) k is)

    record StandsBelow (k p : ℕ) : Type 0 where
      level : ℕ
      is : level_of levels p ≡ Some level
      below : level < k

    stands_below : (k p : ℕ) → StandsIn (rows_to k) p → StandsBelow k p
    stands_below k p stands =
        let image = map_from (nodes_with levels (length levels)) (range_with_len 0 k) stands.step stands.listed in
        let P : List ℕ → Type 0 = λ l. Contains l p in
        let bound = in_range 0 k image.from image.member in
        record { level = image.from; is = in_row image.from p (subst P (sym image.is) stands.member); below = omega (arith, bound.1) }

    below_stands : (k p level : ℕ) → level_of levels p ≡ Some level → level < k → StandsIn (rows_to k) p
    below_stands k p level is less = record {
      step = nodes_with levels (length levels) level;
      listed = map_inside (nodes_with levels (length levels)) (range_with_len 0 k) level (range_has 0 k level (omega arith) (omega arith));
      member = row_has level p is;
    }

    range_ascends : (n : ℕ) → IsStrictlyIncreasing (range_with_len 0 n)
    range_ascends n k less =
        let all = length-range_with_len 0 n in
        let first = get_or-range_with_len 0 n k 0 (omega arith) in
        let second = get_or-range_with_len 0 n (k + 1) 0 (omega arith) in
        omega arith

    next : (k : ℕ) → k < count → IsNext needs (length members) (rows_to k) (nodes_with levels (length levels) k)
    next k less = record {
      first = has.0;
      begun = row_has k has.0 has.1;
      ascend = IsStrictlyIncreasing-filter (λ p. has_level (level_of levels p) k) (range_with_len 0 (length levels)) (range_ascends (length levels));
      once = λ p member stands.
          let here = in_row k p member in
          let below = stands_below k p stands in
          let same : below.level ≡ k = (let e = below.is in cc) in
          let low = below.below in
          omega arith;
      needed = λ p q member link.
          let falls = a.falls p q k (in_row k p member) link in
          let low : falls.below < k + 1 = elim falls.falls [ inl lower ↦ omega arith | inr same ↦ (let e = same.0 in omega arith) ] in
          let P : List (List ℕ) → Type 0 = λ l. StandsIn l q in
          subst P (map-range_with_len_more (nodes_with levels (length levels)) 0 k k (omega arith)) (below_stands (k + 1) q falls.below falls.is low);
      back = λ p q first second leads.
          let falls = down p q k (in_row k p first) leads in
          let here = in_row k q second in
          let same : falls.below ≡ k = (let e = falls.is in cc) in
          elim falls.falls [
            | inl lower ↦ absurd (omega arith)
            | inr back ↦ back.1
          ];
    } where
      has : (p : ℕ) × (level_of levels p ≡ Some k)
      has = elim counted.last [
        | inl none ↦ absurd (omega arith)
        | inr last ↦ (let e = last.next in let to = to_each last.last last.node k last.is (omega arith) in (to.to, to.is))
      ]

    all_next : (more k : ℕ) → k + more ≡ count → AreNext needs (length members) (rows_to k) (map (nodes_with levels (length levels)) (range_with_len k more))
    all_next zero k end = tt
    all_next (suc more) k end =
        let P : List (List ℕ) → Type 0 = λ l. AreNext needs (length members) l (map (nodes_with levels (length levels)) (range_with_len (k + 1) more)) in
        (next k (omega arith), subst P (map-range_with_len_more (nodes_with levels (length levels)) 0 k k (omega arith)) (all_next more (k + 1) (omega arith)))

    pub order_is : AreInOrder needs members (map (nodes_with levels (length levels)) (range_with_len 0 count))
    order_is = record {
      order = all_next count 0 (omega arith);
      whole = λ p marked. has_level_so p marked (level_of levels p) refl;
      only = λ p stands. let below = stands_below count p stands in a.only p below.level below.is;
    } where
      has_level_so : (p : ℕ) → IsMarked members p → (o : Option ℕ) → level_of levels p ≡ o → StandsIn (rows_to count) p
      has_level_so p marked None e = absurd (a.whole p marked e)
      has_level_so p marked (Some level) e = below_stands count p level e (counted.above p level e)

-- the rows by level are the steps
pub are_steps : (needs : List (List ℕ)) (members : List Bool) (levels : List (Option ℕ)) (steps : List (List ℕ)) → AreLevels needs (length members) (IsMarked members) levels → AreRows levels steps → AreSteps needs members steps
are_steps needs members levels steps a rows = λ leads test. rows.are ∙ steps_are needs members levels a leads test rows.count rows.counted

pub are_in_order : (needs : List (List ℕ)) (members : List Bool) (levels : List (Option ℕ)) (steps : List (List ℕ)) → AreLevels needs (length members) (IsMarked members) levels → AreRows levels steps → AreInOrder needs members steps
are_in_order needs members levels steps a rows =
    let P : List (List ℕ) → Type 0 = λ l. AreInOrder needs members l in
    subst P (sym rows.are) (order_is needs members levels a rows.count rows.counted)

-- the levels along the rings of the marked nodes are those of the marked nodes
pub marked_levels : (needs rings : List (List ℕ)) (members : List Bool) (n : ℕ) (levels : List (Option ℕ)) → AreRings needs members rings → n ≡ length members
    → (AreRingsAfter needs n [] rings → ((p : ℕ) → StandsIn rings p → p < n) → AreLevels needs n (StandsIn rings) levels)
    → AreLevels needs (length members) (IsMarked members) levels
marked_levels needs rings members n levels rings_are same along =
    let P : ℕ → Type 0 = λ k. AreRingsAfter needs k [] rings in
    let Q : ℕ → Type 0 = λ k. AreLevels needs k (StandsIn rings) levels in
    let a : AreLevels needs (length members) (StandsIn rings) levels =
    subst Q same (along (subst P (sym same) rings_are.order) (λ p stands. omega (arith, same, marked_inside members p (rings_are.only p stands)))) in
    record {
      len = a.len;
      whole = λ p marked none. a.whole p (rings_are.whole p marked) none;
      only = λ p level is. rings_are.only p (a.only p level is);
      falls = a.falls;
      rests = a.rests;
    }
