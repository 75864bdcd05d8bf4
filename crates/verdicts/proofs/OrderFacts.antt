-- Ids in ascending order: the first that is found is the least, and a list is known by its members.
use Rattle.std.proofs.Common.{◌≡◌, ◌⊎◌, ℕ, Bool, true, false, cond, List, [], ◌∷◌, Some, refl, sym, ap, ◌∙◌, subst, inl, inr}
use Rattle.std.specs.List.{Contains, find}
use Rattle.std.specs.List.Sorted.{IsStrictlySortedBy}
use Rattle.std.specs.Ordering.{is_eq, ordering_reverse}
use Rattle.std.specs.declared.cmp.Ordering.{Ordering}
use Rattle.std.specs.declared.cmp.Ordering.TheVariants.{Less, Equal, Greater}
use Rattle.lemmas.proofs.ListFacts.{first_inside, inside_cases, none_inside, rest_inside, all_in}
use Rattle.catalogue.specs.Ids.{Ascend, id_cmp}
use Rattle.catalogue.proofs.IdFacts.{exact_ids, ids_total, itself, same_is}

-- the first of a list that ascends is below the others
pub first_below : (x : List ℕ) (xs : List (List ℕ)) → Ascend (x ∷ xs) → (y : List ℕ) → Contains xs y → id_cmp x y ≡ Less
unfolding IsStrictlySortedBy
first_below x xs ascend y inside = all_in (λ z. id_cmp x z ≡ Less) xs ascend.0 y inside

pub rest_ascends : (x : List ℕ) (xs : List (List ℕ)) → Ascend (x ∷ xs) → Ascend xs
unfolding IsStrictlySortedBy
rest_ascends x xs ascend = ascend.1

pub not_above_itself : (x : List ℕ) → id_cmp x x ≡ Greater → ⊥
not_above_itself x above =
    let on : is_eq (id_cmp x x) ≡ true = sym (same_is x x) ∙ itself x in
    let off : is_eq (id_cmp x x) ≡ false = ap is_eq above in
    cc

pub not_below_itself : (x : List ℕ) → id_cmp x x ≡ Less → ⊥
not_below_itself x below =
    let on : is_eq (id_cmp x x) ≡ true = sym (same_is x x) ∙ itself x in
    let off : is_eq (id_cmp x x) ≡ false = ap is_eq below in
    cc

-- neither above the other: one id
pub at_most_same : (a b : List ℕ) → (id_cmp a b ≡ Greater → ⊥) → (id_cmp b a ≡ Greater → ⊥) → a ≡ b
at_most_same a b not_above back = go (id_cmp a b) refl where
  go : (o : Ordering) → id_cmp a b ≡ o → a ≡ b
  go Less e = absurd (back (ids_total.antisymm b a ∙ ap ordering_reverse e))
  go Equal e = exact_ids a b e
  go Greater e = absurd (not_above e)

-- ---- what plain search finds

pub find_inside : {A : Type 0} (p : A → Bool) (xs : List A) (x : A) → find p xs ≡ Some x → Contains xs x
find_inside p [] x e = absurd (cc)
find_inside {A} p (y ∷ ys) x e = step (p y) (find_inside p ys x) e where
  step : (b : Bool) → (find p ys ≡ Some x → Contains ys x) → cond b (Some y) (find p ys) ≡ Some x → Contains (y ∷ ys) x
  step true rest e = let same : y ≡ x = (cc) in let P : A → Type 0 = λ z. Contains (y ∷ ys) z in subst P same (first_inside y ys)
  step false rest e = rest_inside y x ys (rest e)

-- the first of a list that ascends is the least
pub find_least : (p : List ℕ → Bool) (xs : List (List ℕ)) (x : List ℕ) → Ascend xs → find p xs ≡ Some x → (y : List ℕ) → Contains xs y → p y ≡ true → id_cmp x y ≡ Greater → ⊥
find_least p [] x ascend found y inside passes above = none_inside y inside
find_least p (z ∷ zs) x ascend found y inside passes above = step (p z) refl (find_least p zs x (rest_ascends z zs ascend)) found where
  later : (z ≡ x) → Contains zs y → ⊥
  later same inside =
      let below : id_cmp z y ≡ Less = first_below z zs ascend y inside in
      let P : List ℕ → Type 0 = λ w. id_cmp w y ≡ Less in
      let less : id_cmp x y ≡ Less = subst P same below in
      cc

  first : (z ≡ x) → (z ≡ y) → ⊥
  first here there = let P : List ℕ → Type 0 = λ w. id_cmp x w ≡ Greater in not_above_itself x (subst P (sym there ∙ here) above)

  step : (b : Bool) → p z ≡ b → (find p zs ≡ Some x → (y : List ℕ) → Contains zs y → p y ≡ true → id_cmp x y ≡ Greater → ⊥) → cond b (Some z) (find p zs) ≡ Some x → ⊥
  step true on rest e = let same : z ≡ x = (cc) in elim (inside_cases z y zs inside) [ inl here ↦ first same here | inr after ↦ later same after ]
  step false off rest e = elim (inside_cases z y zs inside) [
    | inl here ↦ (let P : List ℕ → Type 0 = λ w. p w ≡ false in let other : p y ≡ false = subst P here off in cc)
    | inr after ↦ rest e y after passes above
  ]

-- ---- a list by its members

-- two lists that ascend and have the same members are one
pub ascending_same : (xs ys : List (List ℕ)) → Ascend xs → Ascend ys → ((z : List ℕ) → Contains xs z → Contains ys z) → ((z : List ℕ) → Contains ys z → Contains xs z) → xs ≡ ys
ascending_same [] [] a b there back = refl
ascending_same [] (y ∷ ys) a b there back = absurd (none_inside y (back y (first_inside y ys)))
ascending_same (x ∷ xs) [] a b there back = absurd (none_inside x (there x (first_inside x xs)))
ascending_same (x ∷ xs) (y ∷ ys) a b there back =
    let same : x ≡ y = firsts (inside_cases y x ys (there x (first_inside x xs))) (inside_cases x y xs (back y (first_inside y ys))) in
    let rest : xs ≡ ys = ascending_same xs ys (rest_ascends x xs a) (rest_ascends y ys b) (λ z inside. onward same z inside) (λ z inside. backward same z inside) in
    ap (λ z. z ∷ xs) same ∙ ap (λ zs. y ∷ zs) rest
  where
    firsts : (y ≡ x) ⊎ Contains ys x → (x ≡ y) ⊎ Contains xs y → x ≡ y
    firsts (inl same) o = sym same
    firsts (inr later) (inl same) = same
    firsts (inr later) (inr other) =
        let below : id_cmp y x ≡ Less = first_below y ys b x later in
        let above : id_cmp x y ≡ Less = first_below x xs a y other in
        absurd (not_below_itself x (ids_total.trans x y x above below))

    onward : x ≡ y → (z : List ℕ) → Contains xs z → Contains ys z
    onward same z inside = elim (inside_cases y z ys (there z (rest_inside x z xs inside))) [
      | inl here ↦ (let P : List ℕ → Type 0 = λ w. id_cmp x w ≡ Less in absurd (not_below_itself x (subst P (sym here ∙ sym same) (first_below x xs a z inside))))
      | inr later ↦ later
    ]

    backward : x ≡ y → (z : List ℕ) → Contains ys z → Contains xs z
    backward same z inside = elim (inside_cases x z xs (back z (rest_inside y z ys inside))) [
      | inl here ↦ (let P : List ℕ → Type 0 = λ w. id_cmp y w ≡ Less in absurd (not_below_itself y (subst P (sym here ∙ same) (first_below y ys b z inside))))
      | inr later ↦ later
    ]
