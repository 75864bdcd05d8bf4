-- Members that are left, and those that stand in for the others.
use Rattle.std.proofs.Common.{◌≡◌, ◌⊎◌, ◌||◌, ℕ, ◌<◌, ◌≤◌, Bool, true, false, List, [], ◌∷◌, refl, sym, ◌∙◌, subst, inl, inr, arith}
use Rattle.std.specs.Prelude.{◌==◌, nat_lt, not}
use Rattle.std.specs.List.{Contains, list_any, range_with_len}
use Rattle.std.proofs.lemmas.Bool.{cases_eq, cases_lt, and_parts, not-true, and_from, false_from_ne_true, not_from_false}
use Rattle.std.proofs.lemmas.Bool.Decides.{nat_tests}
use Rattle.std.proofs.lemmas.List.FromFn.{get_or-map-range_with_len, length-map-range_with_len}
use Rattle.lemmas.proofs.ListFacts.{any_at, any_from, inside_cases}
use Rattle.lemmas.proofs.TestFacts.{same_number, less_number}
use Rattle.requisites.specs.Leads.{Leads}
use Rattle.requisites.specs.Nodes.{IsMarked, Links, mark_of, row}
use Rattle.requisites.proofs.LeadsFacts.{leads_itself, leads_more}
use Rattle.requisites.proofs.SourceFacts.{marked_inside}
use Rattle.install_order.specs.Left.{AreGivers, AreLeft, is_outdone, left_in, outdoes}
use Rattle.install_order.proofs.ListFacts.{range_has}
use Rattle.install_order.proofs.ReadFacts.{none_in}

is_test : (x y : ℕ) → x ≡ y → (x == y) ≡ true
is_test x y e = grind (arith, nat_tests)

is_less : (x y : ℕ) → x < y → nat_lt x y ≡ true
is_less x y e = grind (arith, nat_tests)

not_less : (x y : ℕ) → nat_lt x y ≡ false → y ≤ x
not_less x y e = grind (arith, nat_tests)

less_so : (p q : ℕ) → q ≤ p → (q ≡ p → ⊥) → q < p
less_so p q less ne = elim (cases_lt q p) [ inl low ↦ low | inr high ↦ absurd (ne (omega arith)) ]

-- ---- one that outdoes another

-- q gives p and outdoes it
pub record Outdoes (givers : List (List ℕ)) (p q : ℕ) : Type 0 where
  pub gives : Contains (row givers p) q
  pub is_other : q ≡ p → ⊥
  pub greater : Contains (row givers q) p → p < q

abbrev has : List ℕ → ℕ → Bool
has xs p = list_any (λ r. r == p) xs

has_it : (xs : List ℕ) (p : ℕ) → Contains xs p → has xs p ≡ true
has_it xs p inside = any_at (λ r. r == p) xs p inside (is_test p p refl)

it_has : (xs : List ℕ) (p : ℕ) → has xs p ≡ true → Contains xs p
it_has xs p h = let found = any_from (λ r. r == p) xs h in let P : ℕ → Type 0 = λ k. Contains xs k in subst P (same_number found.element p found.passes) found.member

outdoes_so : (givers : List (List ℕ)) (p q : ℕ) → Contains (row givers p) q → outdoes givers p q ≡ true → Outdoes givers p q
outdoes_so givers p q gives h =
    let both = and_parts (not (q == p)) (nat_lt p q || not (has (row givers q) p)) h in
    record {
      gives = gives;
      is_other = λ same. (let on = is_test q p same in let off = not-true (q == p) both.0 in cc);
      greater = λ back. greater (nat_lt p q) refl (has (row givers q) p) (has_it (row givers q) p back) both.1;
    }
  where
    greater : (b : Bool) → nat_lt p q ≡ b → (c : Bool) → c ≡ true → (b || not c) ≡ true → p < q
    greater true e c on h = less_number p q e
    greater false e true on h = absurd (cc)
    greater false e false on h = absurd (cc)

so_outdoes : (givers : List (List ℕ)) (p q : ℕ) → Outdoes givers p q → outdoes givers p q ≡ true
so_outdoes givers p q o =
    and_from (not (q == p)) (nat_lt p q || not (has (row givers q) p)) (not_from_false (q == p) (false_from_ne_true (q == p) (λ on. o.is_other (same_number q p on))))
    (either (has (row givers q) p) refl)
  where
    left_or : (b c : Bool) → b ≡ true → (b || c) ≡ true
    left_or true c e = refl
    left_or false c e = absurd (cc)

    right_or : (b c : Bool) → c ≡ true → (b || c) ≡ true
    right_or true c e = refl
    right_or false c e = e

    either : (c : Bool) → has (row givers q) p ≡ c → (nat_lt p q || not (has (row givers q) p)) ≡ true
    either true e = left_or (nat_lt p q) (not (has (row givers q) p)) (is_less p q (o.greater (it_has (row givers q) p e)))
    either false e = right_or (nat_lt p q) (not (has (row givers q) p)) (not_from_false (has (row givers q) p) e)

pub outdone_so : (givers : List (List ℕ)) (p : ℕ) → is_outdone givers p ≡ true → (q : ℕ) × Outdoes givers p q
outdone_so givers p h = let found = any_from (outdoes givers p) (row givers p) h in (found.element, outdoes_so givers p found.element found.member found.passes)

pub so_outdone : (givers : List (List ℕ)) (p q : ℕ) → Outdoes givers p q → is_outdone givers p ≡ true
so_outdone givers p q o = any_at (outdoes givers p) (row givers p) q o.gives (so_outdoes givers p q o)

module _ (givers : List (List ℕ)) (n : ℕ) (are : AreGivers givers n) where
  outdoes_on : (p s y : ℕ) → Outdoes givers p s → Outdoes givers s y → Outdoes givers p y
  outdoes_on p s y first second = record {
    gives = are.on p s y first.gives second.gives;
    is_other = λ same.
        let P : ℕ → Type 0 = λ k. Contains (row givers s) k in
        let back : Contains (row givers s) p = subst P same second.gives in
        let low : p < s = first.greater back in
        let Q : ℕ → Type 0 = λ k. Contains (row givers k) s in
        let high : s < y = second.greater (subst Q (sym same) first.gives) in
        omega arith;
    greater = λ back.
        let low : p < s = first.greater (are.on s y p second.gives back) in
        let high : s < y = second.greater (are.on y p s back first.gives) in
        omega arith;
  }

  -- one that is p, or outdoes it
  record Tops (p : ℕ) (xs : List ℕ) : Type 0 where
    top : ℕ
    inside : top < n
    above : (top ≡ p) ⊎ Outdoes givers p top
    alone : (x : ℕ) → Contains xs x → Outdoes givers top x → ⊥

  decide : (s y : ℕ) → (Outdoes givers s y) ⊎ (Outdoes givers s y → ⊥)
  decide s y = go (has (row givers s) y) (outdoes givers s y) refl refl where
    go : (b c : Bool) → has (row givers s) y ≡ b → outdoes givers s y ≡ c → (Outdoes givers s y) ⊎ (Outdoes givers s y → ⊥)
    go true true e f = inl (outdoes_so givers s y (it_has (row givers s) y e) f)
    go true false e f = inr (λ o. (let on = so_outdoes givers s y o in cc))
    go false c e f = inr (λ o. (let on = has_it (row givers s) y o.gives in cc))

  above_both : (p s t : ℕ) → (s ≡ p) ⊎ Outdoes givers p s → Outdoes givers s t → Outdoes givers p t
  above_both p s t (inl same) o = let P : ℕ → Type 0 = λ k. Outdoes givers k t in subst P same o
  above_both p s t (inr first) o = outdoes_on p s t first o

  -- from each there is one that none of a list outdoes
  tops : (xs : List ℕ) (p : ℕ) → p < n → Tops p xs
  tops [] p inside = record { top = p; inside = inside; above = inl refl; alone = λ x listed o. none_in x listed }
  tops (y ∷ ys) p inside =
      let below = tops ys p inside in
      elim (decide below.top y) [
        | inl more ↦ (let further = tops ys y (are.within below.top y more.gives) in higher below further more)
        | inr none ↦ record {
          top = below.top;
          inside = below.inside;
          above = below.above;
          alone = λ x listed o. elim (inside_cases y x ys listed) [
            | inl same ↦ (let P : ℕ → Type 0 = λ k. Outdoes givers below.top k in none (subst P (sym same) o))
            | inr later ↦ below.alone x later o
          ];
        }
      ]
    where
      higher : (below : Tops p ys) → Tops y ys → Outdoes givers below.top y → Tops p (y ∷ ys)
      higher below further more = record {
        top = further.top;
        inside = further.inside;
        above = inr (over (above_both p below.top y below.above more) further.above);
        alone = λ x listed o. elim (inside_cases y x ys listed) [
          | inl same ↦
              (let P : ℕ → Type 0 = λ k. Outdoes givers further.top k in
              let round : Outdoes givers y y = above_both y further.top y further.above (subst P (sym same) o) in
              round.is_other refl)
          | inr later ↦ further.alone x later o
        ];
      } where
        over : Outdoes givers p y → (further.top ≡ y) ⊎ Outdoes givers y further.top → Outdoes givers p further.top
        over first (inl same) = let P : ℕ → Type 0 = λ k. Outdoes givers p k in subst P (sym same) first
        over first (inr second) = outdoes_on p y further.top first second

  -- ---- the marks

  mark_at : (p : ℕ) → p < n → mark_of (left_in givers n) p ≡ not (is_outdone givers p)
  mark_at p inside = get_or-map-range_with_len (λ p. not (is_outdone givers p)) 0 n p p false inside (omega arith)

  marked_not : (p : ℕ) → IsMarked (left_in givers n) p → is_outdone givers p ≡ false
  marked_not p marked =
      let len = length-map-range_with_len (λ p. not (is_outdone givers p)) 0 n in
      not-true (is_outdone givers p) (sym (mark_at p (omega (arith, marked_inside (left_in givers n) p marked, len))) ∙ marked.is)

  no_other : (p q : ℕ) → IsMarked (left_in givers n) p → Outdoes givers p q → ⊥
  no_other p q marked o = let on = so_outdone givers p q o in let off = marked_not p marked in cc

  pub are_left : AreLeft givers n (left_in givers n)
  are_left = record {
    len = length-map-range_with_len (λ p. not (is_outdone givers p)) 0 n;
    left_out = λ p inside off.
        let outdone : is_outdone givers p ≡ true = on (is_outdone givers p) (sym (mark_at p inside) ∙ off) in
        let by = outdone_so givers p outdone in
        record { by = by.0; is_other = by.1.is_other; gives = record { listed = by.1.gives; index = are.within p by.0 by.1.gives } };
    alone = λ p q first second gives. elim (cases_eq q p) [
      | inl same ↦ same
      | inr other ↦ absurd (both p q first second gives other)
    ];
    stands_in = λ p inside.
        let top = tops (range_with_len 0 n) p inside in
        let none : is_outdone givers top.top ≡ false = false_from_ne_true (is_outdone givers top.top) (λ on.
        let by = outdone_so givers top.top on in
        top.alone by.0 (range_has 0 n by.0 (omega arith) (omega (arith, are.within top.top by.0 by.1.gives))) by.1) in
        record {
          stand_in = top.top;
          marked = record { is = mark_at top.top top.inside ∙ not_from_false (is_outdone givers top.top) none };
          leads = up p top.top top.inside top.above;
        };
  } where
    on : (b : Bool) → not b ≡ false → b ≡ true
    on true e = refl
    on false e = absurd (cc)

    up : (p s : ℕ) → s < n → (s ≡ p) ⊎ Outdoes givers p s → Leads (Links givers n) p s
    up p s inside (inl same) = let P : ℕ → Type 0 = λ k. Leads (Links givers n) p k in subst P (sym same) (leads_itself (Links givers n) p)
    up p s inside (inr o) = leads_more (leads_itself (Links givers n) p) (record { listed = o.gives; index = inside })

    -- of two that are left and differ, where one gives the other, it outdoes it or is outdone
    both : (p q : ℕ) → IsMarked (left_in givers n) p → IsMarked (left_in givers n) q → Contains (row givers p) q → (q ≡ p → ⊥) → ⊥
    both p q first second gives other = go (has (row givers q) p) refl where
      go : (b : Bool) → has (row givers q) p ≡ b → ⊥
      go true e = elim (cases_lt p q) [
        | inl less ↦ no_other p q first (record { gives = gives; is_other = other; greater = λ back. less })
        | inr more ↦ no_other q p second (record { gives = it_has (row givers q) p e; is_other = λ same. other (sym same); greater = λ back. less_so p q more other })
      ]
      go false e = no_other p q first (record { gives = gives; is_other = other; greater = λ back. absurd (let on = has_it (row givers q) p back in cc) })

pub left_are : (givers : List (List ℕ)) (n : ℕ) (left : List Bool) → left ≡ left_in givers n → AreGivers givers n → AreLeft givers n left
left_are givers n left same are = let P : List Bool → Type 0 = λ l. AreLeft givers n l in subst P (sym same) (are_left givers n are)
