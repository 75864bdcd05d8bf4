-- On a list in order into which a key is put where it belongs.
use Rattle.std.proofs.Common.{◌≡◌, Bool, true, false, ◌||◌, ◌&&◌, List, [], ◌∷◌, refl, sym, ◌∙◌, ap}
use Rattle.std.specs.declared.cmp.Ordering.{Ordering}
use Rattle.std.specs.declared.cmp.Ordering.TheVariants.{Less, Equal, Greater}
use Rattle.std.specs.Ordering.{match_ordering, ordering_reverse}
use Rattle.std.specs.Cmp.{IsTotalOrder}
use Rattle.std.specs.List.{fold, list_all, list_any, AllByRecursion}
use Rattle.std.specs.List.Sorted.{IsStrictlySortedBy}
use Rattle.std.specs.BTreeSet.{insert_key}
use Rattle.std.proofs.lemmas.Bool.{and_parts}
use Rattle.std.proofs.lemmas.Map.Lookups.{CmpEqualImpliesEq}
use Rattle.lemmas.proofs.TestFacts.{or_false, or_swap}

pub any_insert : {K : Type 0} (cmp : K → K → Ordering) → CmpEqualImpliesEq cmp → (test : K → Bool) (ks : List K) (k : K) → list_any test (insert_key cmp ks k) ≡ (test k || list_any test ks)
any_insert cmp exact test [] k = refl
any_insert {K} cmp exact test (x ∷ xs) k = by (any_insert cmp exact test xs k) (cmp k x) refl
  where
    twice : (a b : Bool) → (a || b) ≡ (a || (a || b))
    twice true b = refl
    twice false b = refl

    by : list_any test (insert_key cmp xs k) ≡ (test k || list_any test xs) → (o : Ordering) → cmp k x ≡ o → list_any test (match_ordering o (k ∷ x ∷ xs) (x ∷ xs) (x ∷ insert_key cmp xs k)) ≡ (test k || (test x || list_any test xs))
    by rest Less is = refl
    by rest Equal is = twice (test x) (list_any test xs) ∙ ap (λ y. test y || (test x || list_any test xs)) (sym (exact k x is))
    by rest Greater is = ap (λ b. test x || b) rest ∙ or_swap (test x) (test k) (list_any test xs)

pub every_insert : {K : Type 0} (cmp : K → K → Ordering) (test : K → Bool) (ks : List K) (k : K) → list_all test ks ≡ true → test k ≡ true → list_all test (insert_key cmp ks k) ≡ true
every_insert cmp test [] k h p = ap (λ b. b && true) p
every_insert {K} cmp test (x ∷ xs) k h p = by (every_insert cmp test xs k ((and_parts (test x) _ h).1) p) (cmp k x)
  where
    by : list_all test (insert_key cmp xs k) ≡ true → (o : Ordering) → list_all test (match_ordering o (k ∷ x ∷ xs) (x ∷ xs) (x ∷ insert_key cmp xs k)) ≡ true
    by rest Less = ap (λ b. b && list_all test (x ∷ xs)) p ∙ h
    by rest Equal = h
    by rest Greater = ap (λ b. b && list_all test (insert_key cmp xs k)) ((and_parts (test x) _ h).0) ∙ rest

all_insert : {K : Type 0} (cmp : K → K → Ordering) (P : K → Type 0) (ks : List K) (k : K) → AllByRecursion P ks → P k → AllByRecursion P (insert_key cmp ks k)
all_insert cmp P [] k h p = (p, tt)
all_insert {K} cmp P (x ∷ xs) k h p = by (all_insert cmp P xs k h.1 p) (cmp k x)
  where
    by : AllByRecursion P (insert_key cmp xs k) → (o : Ordering) → AllByRecursion P (match_ordering o (k ∷ x ∷ xs) (x ∷ xs) (x ∷ insert_key cmp xs k))
    by rest Less = (p, h)
    by rest Equal = h
    by rest Greater = (h.0, rest)

pub all_below : {K : Type 0} {cmp : K → K → Ordering} → IsTotalOrder cmp → (k x : K) (xs : List K) → cmp k x ≡ Less → AllByRecursion (λ y. cmp x y ≡ Less) xs → AllByRecursion (λ y. cmp k y ≡ Less) xs
all_below total k x [] h g = tt
all_below total k x (y ∷ ys) h g = (total.trans k x y h g.0, all_below total k x ys h g.1)

pub turned : {K : Type 0} {cmp : K → K → Ordering} → IsTotalOrder cmp → (a b : K) → cmp a b ≡ Greater → cmp b a ≡ Less
turned total a b h = total.antisymm b a ∙ ap ordering_reverse h

pub sorted_insert : {K : Type 0} (cmp : K → K → Ordering) → IsTotalOrder cmp → (ks : List K) (k : K) → IsStrictlySortedBy cmp ks → IsStrictlySortedBy cmp (insert_key cmp ks k)
unfolding IsStrictlySortedBy
sorted_insert cmp total [] k h = (tt, tt)
sorted_insert {K} cmp total (x ∷ xs) k h = by (sorted_insert cmp total xs k h.1) (cmp k x) refl
  where
    by : IsStrictlySortedBy cmp (insert_key cmp xs k) → (o : Ordering) → cmp k x ≡ o → IsStrictlySortedBy cmp (match_ordering o (k ∷ x ∷ xs) (x ∷ xs) (x ∷ insert_key cmp xs k))
    by rest Less is = ((is, all_below total k x xs is h.0), h)
    by rest Equal is = h
    by rest Greater is = (all_insert cmp (λ y. cmp x y ≡ Less) xs k h.0 (turned total k x is), rest)

-- ---- all keys of a list, each put where it belongs

pub sorted_puts : {K : Type 0} (cmp : K → K → Ordering) → IsTotalOrder cmp → (ks more : List K) → IsStrictlySortedBy cmp ks → IsStrictlySortedBy cmp (fold (insert_key cmp) ks more)
sorted_puts cmp total ks [] h = h
sorted_puts cmp total ks (k ∷ more) h = sorted_puts cmp total (insert_key cmp ks k) more (sorted_insert cmp total ks k h)

pub any_puts : {K : Type 0} (cmp : K → K → Ordering) → CmpEqualImpliesEq cmp → (test : K → Bool) (ks more : List K)
    → list_any test (fold (insert_key cmp) ks more) ≡ (list_any test ks || list_any test more)
any_puts cmp exact test ks [] = or_false (list_any test ks)
any_puts cmp exact test ks (k ∷ more) =
    any_puts cmp exact test (insert_key cmp ks k) more
    ∙ ap (λ b. b || list_any test more) (any_insert cmp exact test ks k)
    ∙ turn (test k) (list_any test ks) (list_any test more)
  where
    turn : (a b c : Bool) → ((a || b) || c) ≡ (b || (a || c))
    turn true true c = refl
    turn true false c = refl
    turn false true c = refl
    turn false false c = refl

pub every_puts : {K : Type 0} (cmp : K → K → Ordering) (test : K → Bool) (ks more : List K) → list_all test ks ≡ true → list_all test more ≡ true → list_all test (fold (insert_key cmp) ks more) ≡ true
every_puts cmp test ks [] h g = h
every_puts cmp test ks (k ∷ more) h g =
    let parts = and_parts (test k) (list_all test more) g in
    every_puts cmp test (insert_key cmp ks k) more (every_insert cmp test ks k h parts.0) parts.1
