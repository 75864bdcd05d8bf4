-- One more of a list, and so many of it.
use Rattle.std.proofs.Common.{◌≡◌, ◌≤◌, ◌<◌, ◌+◌, ◌++◌, ℕ, List, [], ◌∷◌, get_or, length, take, sym, ◌∙◌, ap, subst, arith}
use Rattle.std.specs.List.{AllByRecursion}
use Rattle.std.proofs.lemmas.List.{length-take, take_more}
use Rattle.sqlite_trees.proofs.ListLemmas.{all-append}

pub one_more : {X : Type 0} (all : List X) (i : ℕ) (x : X) → i < length all → x ≡ get_or all i x → take i all ++ x ∷ [] ≡ take (i + 1) all
one_more all i x low at = ap (λ y. take i all ++ y ∷ []) at ∙ sym (take_more all i x low)

pub all_more : {X : Type 0} (P : X → Type 0) (all : List X) (i : ℕ) (x : X) → i < length all → x ≡ get_or all i x → AllByRecursion P (take i all) → P x → AllByRecursion P (take (i + 1) all)
all_more P all i x low at before here = subst (AllByRecursion P) (one_more all i x low at) (all-append P (take i all) (x ∷ []) before (here, tt))

-- so many of a longer list are so many
pub taken_long : {X : Type 0} (n long : ℕ) (xs : List X) → length xs ≡ long → n ≤ long → length (take n xs) ≡ n
taken_long n long xs is low = let taken = length-take n xs in omega (arith, taken, is, low)
