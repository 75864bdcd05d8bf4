-- Lists in ascending order, each element once, whatever the order is: they are known by their elements.
use Rattle.std.proofs.Common.{◌≡◌, Bool, true, false, ◌&&◌, ◌||◌, List, [], ◌∷◌, refl, sym, ◌∙◌, ap}
use Rattle.std.specs.Prelude.{fold, not}
use Rattle.std.specs.BTreeSet.{insert_key}
use Rattle.std.specs.Cmp.{IsTotalOrder}
use Rattle.std.specs.List.{AllByRecursion, list_any}
use Rattle.std.specs.List.Sorted.{IsPermutation, IsStrictlySortedBy}
use Rattle.std.specs.Ordering.{is_eq, ordering_reverse}
use Rattle.std.specs.declared.cmp.Ordering.{Ordering}
use Rattle.std.specs.declared.cmp.Ordering.TheVariants.{Less, Equal, Greater}
use Rattle.std.proofs.Math.Bool.{and-true, or-false, or_assoc, or_comm}
use Rattle.std.proofs.lemmas.Cmp.{eq_by_cmp_equiv}
use Rattle.std.proofs.lemmas.List.Sorted.{list_any-IsPermutation}
use Rattle.std.proofs.lemmas.Map.Lookups.{CmpEqualImpliesEq, exact_pairs}
use Rattle.holddata.proofs.InsertFacts.{all_below, any_insert, sorted_insert}
use Rattle.catalogue.specs.Conditional.{cond_cmp}
use Rattle.catalogue.specs.Ids.{id_cmp}
use Rattle.catalogue.proofs.IdFacts.{exact_ids}

module _ {K : Type 0} {cmp : K → K → Ordering} (total : IsTotalOrder cmp) (exact : CmpEqualImpliesEq cmp) where
  fold_ascends : (ks xs : List K) → IsStrictlySortedBy cmp ks → IsStrictlySortedBy cmp (fold (insert_key cmp) ks xs)
  fold_ascends ks [] h = h
  fold_ascends ks (x ∷ xs) h = fold_ascends (insert_key cmp ks x) xs (sorted_insert cmp total ks x h)

  fold_any : (test : K → Bool) (ks xs : List K) → list_any test (fold (insert_key cmp) ks xs) ≡ (list_any test ks || list_any test xs)
  fold_any test ks [] = sym (or-false (list_any test ks))
  fold_any test ks (x ∷ xs) =
      fold_any test (insert_key cmp ks x) xs
      ∙ ap (λ b. b || list_any test xs) (any_insert cmp exact test ks x ∙ or_comm (test x) (list_any test ks))
      ∙ or_assoc (list_any test ks) (test x) (list_any test xs)

  alike : (x : K) → is_eq (cmp x x) ≡ true
  alike x = (eq_by_cmp_equiv total).refl x

  -- what is below all others is none of them
  none_above : (x : K) (xs : List K) → AllByRecursion (λ k. cmp x k ≡ Less) xs → list_any (λ k. is_eq (cmp x k)) xs ≡ false
  none_above x [] h = refl
  none_above x (k ∷ xs) h = ap (λ o. is_eq o || list_any (λ y. is_eq (cmp x y)) xs) h.0 ∙ none_above x xs h.1

  all_others : (test : K → Bool) (x : K) (xs : List K) → AllByRecursion (λ k. cmp x k ≡ Less) xs → list_any (λ k. test k && not (is_eq (cmp x k))) xs ≡ list_any test xs
  all_others test x [] h = refl
  all_others test x (k ∷ xs) h =
      ap (λ o. (test k && not (is_eq o)) || list_any (λ y. test y && not (is_eq (cmp x y))) xs) h.0
      ∙ ap (λ b. (test k && true) || b) (all_others test x xs h.1)
      ∙ ap (λ b. b || list_any test xs) (and-true (test k))

  -- the first of a list is not among the others
  others : (test : K → Bool) (x : K) (xs : List K) → AllByRecursion (λ k. cmp x k ≡ Less) xs → list_any (λ k. test k && not (is_eq (cmp x k))) (x ∷ xs) ≡ list_any test xs
  others test x xs h = ap (λ b. (test x && not b) || list_any (λ k. test k && not (is_eq (cmp x k))) xs) (alike x) ∙ off (test x) ∙ all_others test x xs h
    where
      off : (b : Bool) → ((b && false) || list_any (λ k. test k && not (is_eq (cmp x k))) xs) ≡ list_any (λ k. test k && not (is_eq (cmp x k))) xs
      off true = refl
      off false = refl

  -- two such lists in which each test finds alike are the same
  same_set : (a b : List K) → IsStrictlySortedBy cmp a → IsStrictlySortedBy cmp b → ((test : K → Bool) → list_any test a ≡ list_any test b) → a ≡ b
  unfolding IsStrictlySortedBy
  same_set [] [] s t h = refl
  same_set [] (y ∷ b) s t h = let e : false ≡ true = h (λ k. true) in cc
  same_set (x ∷ a) [] s t h = let e : true ≡ false = h (λ k. true) in cc
  same_set (x ∷ a) (y ∷ b) s t h = by (cmp x y) refl (same_set a b s.1 t.1)
    where
      below : (u v : K) (us vs : List K) → cmp u v ≡ Less → AllByRecursion (λ k. cmp v k ≡ Less) vs → list_any (λ k. is_eq (cmp u k)) (u ∷ us) ≡ list_any (λ k. is_eq (cmp u k)) (v ∷ vs) → ⊥
      below u v us vs less rest e =
          let here : list_any (λ k. is_eq (cmp u k)) (u ∷ us) ≡ true = ap (λ b. b || list_any (λ k. is_eq (cmp u k)) us) (alike u) in
          let none : list_any (λ k. is_eq (cmp u k)) (v ∷ vs) ≡ false = none_above u (v ∷ vs) (less, all_below total u v vs less rest) in
          let f : true ≡ false = sym here ∙ e ∙ none in cc

      by : (o : Ordering) → cmp x y ≡ o → (((test : K → Bool) → list_any test a ≡ list_any test b) → a ≡ b) → x ∷ a ≡ y ∷ b
      by Less is rest = absurd (below x y a b is t.0 (h (λ k. is_eq (cmp x k))))
      by Greater is rest = absurd (below y x b a (total.antisymm y x ∙ ap ordering_reverse is) s.0 (sym (h (λ k. is_eq (cmp y k)))))
      by Equal is rest =
          let e : x ≡ y = exact x y is in
          let f : a ≡ b = rest (λ test. sym (others test x a s.0) ∙ h (λ k. test k && not (is_eq (cmp x k))) ∙ ap (λ z. list_any (λ k. test k && not (is_eq (cmp z k))) (y ∷ b)) e ∙ others test y b t.0) in cc

  -- what ascends is in order already
  pub set_same : (xs : List K) → IsStrictlySortedBy cmp xs → fold (insert_key cmp) [] xs ≡ xs
  unfolding IsStrictlySortedBy
  set_same xs h = same_set (fold (insert_key cmp) [] xs) xs (fold_ascends [] xs tt) h (λ test. fold_any test [] xs)

  -- a read in order finds what stands in order
  pub set_read : (xs found : List K) → IsStrictlySortedBy cmp found → IsPermutation xs found → found ≡ fold (insert_key cmp) [] xs
  unfolding IsStrictlySortedBy
  set_read xs found ascend permuted =
      same_set found (fold (insert_key cmp) [] xs) ascend (fold_ascends [] xs tt) (λ test. sym (list_any-IsPermutation test xs found permuted) ∙ sym (fold_any test [] xs))

-- ---- requisites under a condition

pub exact_conds : CmpEqualImpliesEq cond_cmp
exact_conds a b h = ap (λ p. record { fmid = p.0; need = p.1 }) (exact_pairs id_cmp id_cmp exact_ids exact_ids (a.fmid, a.need) (b.fmid, b.need) h)
