-- What is kept of surveys, where one is found, comes or goes.
use Rattle.std.proofs.Common.{◌≡◌, ◌⊎◌, ◌+◌, ◌<◌, ◌≤◌, ◌++◌, ◌∷◌, [], ℕ, Bool, List, Some, ap, arith, cond, false, get_or, inl, inr, length, slice_get, subst, sym, true}
use Rattle.std.specs.List.{Contains, remove, sum_by}
use Rattle.std.proofs.lemmas.List.Elements.{Contains-push_cases}
use Rattle.std.proofs.lemmas.List.Sorted.{Contains-permutation, IsPermutation-remove, IsPermutation-sym, sum_by_popped}
use Rattle.std.proofs.lemmas.List.Sums.{sum_by_push}
use Rattle.std.proofs.lemmas.Option.{get_or_from_slice_get, slice_get_within}
use Rattle.lemmas.proofs.ListFacts.{rest_inside}

-- what stands at an index is inside
pub inside_at : {A : Type 0} (xs : List A) (i : ℕ) (x : A) → slice_get xs i ≡ Some x → Contains xs x
inside_at xs i x is = (i, slice_get_within xs i x is, get_or_from_slice_get xs i x x is)

module _ {A : Type 0} (xs : List A) (i : ℕ) (x : A) (within : i < length xs) (is : x ≡ get_or xs i x) where
  -- without one of them
  pub fewer_without : (one : A) → Contains (remove xs i) one → Contains xs one
  fewer_without one inside = Contains-permutation (x ∷ remove xs i) xs one (IsPermutation-sym xs (x ∷ remove xs i) (IsPermutation-remove xs i x within is)) (rest_inside x one (remove xs i) inside)

  pub less_without : (f : A → ℕ) → sum_by f (remove xs i) ≤ sum_by f xs
  less_without f = omega (arith, sum_by_popped f x xs (remove xs i) (IsPermutation-remove xs i x within is))

module _ {A : Type 0} (xs : List A) (x : A) where
  -- with one more, if there was memory for it
  pub cases_with : (is_kept : Bool) (ys : List A) → ys ≡ cond is_kept (xs ++ x ∷ []) xs → (one : A) → Contains ys one → Contains xs one ⊎ (one ≡ x)
  cases_with true ys are one inside = elim (Contains-push_cases xs x one (subst (λ list. Contains list one) are inside)) [
    | inl earlier ↦ inl earlier
    | inr same ↦ inr (sym same)
  ]
  cases_with false ys are one inside = inl (subst (λ list. Contains list one) are inside)

  pub bytes_with : (f : A → ℕ) (is_kept : Bool) (ys : List A) → ys ≡ cond is_kept (xs ++ x ∷ []) xs → sum_by f ys ≤ sum_by f xs + f x
  bytes_with f true ys are = omega (arith, ap (sum_by f) are, sum_by_push f xs x)
  bytes_with f false ys are = omega (arith, ap (sum_by f) are)
