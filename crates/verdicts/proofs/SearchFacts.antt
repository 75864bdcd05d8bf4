-- What plain search over lists finds.
use Rattle.std.proofs.Common.{Bool, true, false, cond, List, [], ◌∷◌, ◌++◌, map, sym, subst, inl, inr}
use Rattle.std.specs.List.{Contains, filter}
use Rattle.std.proofs.lemmas.List.Elements.{Contains-append_cases, Contains-append_left, Contains-append_right}
use Rattle.lemmas.proofs.ListFacts.{first_inside, inside_cases, map_from, map_inside, none_inside, rest_inside}
use Rattle.verdicts.specs.Verdicts.{sublists}

-- what a filter keeps is a sublist
pub filter_is_sublist : {A : Type 0} (p : A → Bool) (xs : List A) → Contains (sublists xs) (filter p xs)
filter_is_sublist p [] = first_inside [] []
filter_is_sublist {A} p (x ∷ xs) = go (filter_is_sublist p xs) (p x) where
  go : Contains (sublists xs) (filter p xs) → (b : Bool) → Contains (map (λ list. x ∷ list) (sublists xs) ++ sublists xs) (cond b (x ∷ filter p xs) (filter p xs))
  go rest true = Contains-append_left (map (λ list. x ∷ list) (sublists xs)) (sublists xs) (x ∷ filter p xs) (map_inside (λ (list : List A). x ∷ list) (sublists xs) (filter p xs) rest)
  go rest false = Contains-append_right (map (λ list. x ∷ list) (sublists xs)) (sublists xs) (filter p xs) rest

-- what a sublist has, the list has
pub sublist_inside : {A : Type 0} (xs ys : List A) (y : A) → Contains (sublists xs) ys → Contains ys y → Contains xs y
sublist_inside {A} [] ys y sub inside = elim (inside_cases [] ys [] sub) [
  | inl same ↦ (let P : List A → Type 0 = λ l. Contains l y in absurd (none_inside y (subst P (sym same) inside)))
  | inr none ↦ absurd (none_inside ys none)
]
sublist_inside {A} (x ∷ xs) ys y sub inside = elim (Contains-append_cases (map (λ list. x ∷ list) (sublists xs)) (sublists xs) ys sub) [
  | inl with_x ↦
      (let image = map_from (λ (list : List A). x ∷ list) (sublists xs) ys with_x in
      let P : List A → Type 0 = λ l. Contains l y in
      elim (inside_cases x y image.from (subst P (sym image.is) inside)) [
        | inl same ↦ (let Q : A → Type 0 = λ z. Contains (x ∷ xs) z in subst Q same (first_inside x xs))
        | inr later ↦ rest_inside x y xs (sublist_inside xs image.from y image.member later)
      ])
  | inr without ↦ rest_inside x y xs (sublist_inside xs ys y without inside)
]
