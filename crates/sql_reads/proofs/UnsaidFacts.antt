-- Rows of which one says nothing.
use Rattle.std.proofs.Common.{◌≡◌, ◌∙◌, List, [], ◌∷◌, Option, None, Some, ap, refl, subst, sym}
use Rattle.std.specs.Prelude.{map}
use Rattle.std.specs.List.{Contains}
use Rattle.lemmas.proofs.ListFacts.{map_from, map_inside}

-- where one says nothing, not all say something
pub one_unsaid : {A B : Type 0} (f : A → Option B) (xs : List A) (x : A) → Contains xs x → f x ≡ None → (said : List B) → map Some said ≡ map f xs → ⊥
one_unsaid f xs x inside none said all =
    let it = map_from Some said None (subst (λ made. Contains made None) (sym all) (subst (Contains (map f xs)) none (map_inside f xs x inside))) in
    let is : Some it.from ≡ None = it.is in cc

-- what is said of each is one list
pub one_list : {A : Type 0} (xs ys : List A) → map Some xs ≡ map Some ys → xs ≡ ys
one_list [] [] same = refl
one_list [] (y ∷ ys) same = cc
one_list (x ∷ xs) [] same = cc
one_list (x ∷ xs) (y ∷ ys) same =
    let first : x ≡ y = cc in
    let rest : map Some xs ≡ map Some ys = cc in ap (λ a. a ∷ xs) first ∙ ap (λ all. y ∷ all) (one_list xs ys rest)

-- nor do all say something in order, where what they say is in none
pub disordered : {A B : Type 0} (f : A → Option B) (P : List B → Type 0) (xs : List A) (read said : List B) → map Some read ≡ map f xs → (P read → ⊥) → map Some said ≡ map f xs → P said → ⊥
disordered f P xs read said are none all holds = none (subst P (one_list said read (all ∙ sym are)) holds)
