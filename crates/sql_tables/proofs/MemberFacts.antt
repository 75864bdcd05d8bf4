-- Lists in ascending order are known by their members.
use Rattle.std.proofs.Common.{◌≡◌, ◌⊎◌, ℕ, Bool, true, false, cond, List, [], ◌∷◌, refl, sym, ◌∙◌, ap, subst, inl, inr}
use Rattle.std.specs.Prelude.{find, map, Option, Some, None}
use Rattle.std.specs.List.{AllByRecursion, Contains}
use Rattle.std.specs.List.Sorted.{IsPermutation, IsStrictlySortedBy}
use Rattle.std.specs.declared.cmp.Ordering.TheVariants.{Less}
use Rattle.std.proofs.lemmas.List.Sorted.{Contains-permutation, IsPermutation-sym}
use Rattle.lemmas.proofs.ListFacts.{first_inside, inside_cases, none_inside, rest_inside}
use Rattle.catalogue.specs.Ids.{id_cmp, same_id}
use Rattle.catalogue.proofs.IdFacts.{apart, itself, one_id}
use Rattle.sql_tables.proofs.OrderFacts.{KeysAscend, by_key, by_key_ascends, by_key_with, same_by_key, with_key}

-- what is found is a member
pub found_in : {A : Type 0} (test : A → Bool) (xs : List A) (x : A) → find test xs ≡ Some x → Contains xs x × (test x ≡ true)
found_in test [] x h = cc
found_in test (y ∷ ys) x h = by (test y) refl (found_in test ys x) h
  where
    by : (b : Bool) → test y ≡ b → (find test ys ≡ Some x → Contains ys x × (test x ≡ true)) → cond b (Some y) (find test ys) ≡ Some x → Contains (y ∷ ys) x × (test x ≡ true)
    by true at rest e = (let same : y ≡ x = cc in (subst (λ z. Contains (y ∷ ys) z) same (first_inside y ys), ap test (sym same) ∙ at))
    by false at rest e = (let later = rest e in (rest_inside y x ys later.0, later.1))

-- where nothing is found, no member passes
pub none_found : {A : Type 0} (test : A → Bool) (xs : List A) → find test xs ≡ None → (x : A) → Contains xs x → test x ≡ true → ⊥
none_found test [] h x inside passes = none_inside x inside
none_found test (y ∷ ys) h x inside passes = by (test y) refl h (none_found test ys) (inside_cases y x ys inside)
  where
    by : (b : Bool) → test y ≡ b → cond b (Some y) (find test ys) ≡ None → (find test ys ≡ None → (z : _) → Contains ys z → test z ≡ true → ⊥) → (y ≡ x) ⊎ Contains ys x → ⊥
    by true at e rest cases = cc
    by false at e rest (inl same) = let f : false ≡ true = sym at ∙ ap test same ∙ passes in cc
    by false at e rest (inr later) = rest e x later passes

module _ {X : Type 0} (key : X → List ℕ) where
  all_at : (P : List ℕ → Type 0) (xs : List X) → AllByRecursion P (map key xs) → (x : X) → Contains xs x → P (key x)
  all_at P [] all x inside = absurd (none_inside x inside)
  all_at P (y ∷ ys) all x inside = elim (inside_cases y x ys inside) [
    | inl same ↦ subst (λ z. P (key z)) same all.0
    | inr later ↦ all_at P ys all.1 x later
  ]

  -- each member of a list that ascends is found under its key
  pub member_with : (xs : List X) → KeysAscend key xs → (x : X) → Contains xs x → with_key key xs (key x) ≡ Some x
  unfolding IsStrictlySortedBy
  member_with [] h x inside = absurd (none_inside x inside)
  member_with (y ∷ ys) h x inside = elim (inside_cases y x ys inside) [
    | inl same ↦ subst (λ z. with_key key (y ∷ ys) (key z) ≡ Some z) same (ap (λ b. cond b (Some y) (with_key key ys (key y))) (itself (key y)))
    | inr later ↦ ap (λ b. cond b (Some y) (with_key key ys (key x))) (apart (key y) (key x) (all_at (λ k. id_cmp (key y) k ≡ Less) ys h.0 x later)) ∙ member_with ys h.1 x later
  ]

  -- a list that ascends, with the same members
  pub same_members : (xs ys : List X) → KeysAscend key ys → ((x : X) → Contains xs x → Contains ys x) → ((y : X) → Contains ys y → Contains xs y)
      → (id : List ℕ) → with_key key xs id ≡ with_key key ys id
  same_members xs ys h there back id = by (with_key key xs id) refl (with_key key ys id) refl
    where
      by : (a : Option X) → with_key key xs id ≡ a → (b : Option X) → with_key key ys id ≡ b → with_key key xs id ≡ with_key key ys id
      by (Some x) at b is =
          let found = found_in (λ z. same_id (key z) id) xs x at in
          at ∙ sym (ap (with_key key ys) (sym (one_id (key x) id found.1)) ∙ member_with ys h x (there x found.0))
      by None at None is = at ∙ sym is
      by None at (Some y) is =
          let found = found_in (λ z. same_id (key z) id) ys y is in
          absurd (none_found (λ z. same_id (key z) id) xs at y (back y found.0) found.1)

  -- a read in order finds what stands in order
  pub read_in_order : (xs ys : List X) → KeysAscend key ys → IsPermutation xs ys → ys ≡ by_key key xs
  read_in_order xs ys h permuted =
      same_by_key key ys (by_key key xs) h (by_key_ascends key xs) (λ id.
      sym (by_key_with key xs id ∙ same_members xs ys h (λ x. Contains-permutation xs ys x permuted) (λ y. Contains-permutation ys xs y (IsPermutation-sym xs ys permuted)) id))
