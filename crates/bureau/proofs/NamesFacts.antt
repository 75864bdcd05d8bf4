-- Names, their order, and callers.
use Rattle.std.proofs.Common.{◌≡◌, ℕ, Bool, true, false, ◌||◌, List, [], ◌∷◌, refl, sym, ◌∙◌, ap, subst}
use Rattle.std.specs.Cmp.Lexicographic.{nat_list_cmp_total}
use Rattle.std.specs.List.{AllByRecursion, list_any}
use Rattle.std.specs.List.Sorted.{IsStrictlySortedBy}
use Rattle.std.specs.Ordering.{is_eq}
use Rattle.std.specs.BTreeSet.{insert_key}
use Rattle.std.specs.Str.{bytes_eq}
use Rattle.std.specs.declared.cmp.Ordering.{Ordering}
use Rattle.std.specs.declared.cmp.Ordering.TheVariants.{Less, Equal}
use Rattle.std.proofs.lemmas.Map.Lookups.{exact_bytes}
use Rattle.std.proofs.lemmas.Map.Text.{is_eq-slice_cmp}
use Rattle.std.proofs.lemmas.Slice.Eq.{bytes_eq-Decides}
use Rattle.holddata.proofs.InsertFacts as keys
use Rattle.supersede.proofs.GivingFacts.{same_self}
use Rattle.bureau_store.specs.Caller.{is_caller}
use Rattle.bureau_store.specs.Tables.{name_order}
use Rattle.bureau_store.specs.declared.caller.Caller.{Caller}
use Rattle.bureau_store.specs.declared.caller.Caller.TheVariants.{Publisher, Client}

pub same_name : (a b : List ℕ) → bytes_eq a b ≡ true → a ≡ b
same_name a b = (bytes_eq-Decides a b).0

pub apart_turned : (a b : List ℕ) → bytes_eq a b ≡ false → bytes_eq b a ≡ false
apart_turned a b h = by (bytes_eq b a) refl
  where
    by : (t : Bool) → bytes_eq b a ≡ t → bytes_eq b a ≡ false
    by false is = is
    by true is = cc (h, subst (λ x. bytes_eq x b ≡ true) (same_name b a is) (same_self b))

pub same_caller : (a b : Caller) → is_caller a b ≡ true → a ≡ b
same_caller Publisher Publisher h = refl
same_caller Publisher (Client b) h = cc
same_caller (Client a) Publisher h = cc
same_caller (Client a) (Client b) h = ap (λ n. Client n) (same_name a b h)

pub own_caller : (a : Caller) → is_caller a a ≡ true
own_caller Publisher = refl
own_caller (Client a) = same_self a

-- ---- names in order

pub equal_name : (a b : List ℕ) → name_order a b ≡ Equal → a ≡ b
equal_name a b h = exact_bytes a b h

pub apart_by_order : (a b : List ℕ) (o : Ordering) → name_order a b ≡ o → is_eq o ≡ false → bytes_eq a b ≡ false
apart_by_order a b o is h = sym (is_eq-slice_cmp a b) ∙ ap is_eq is ∙ h

pub all_below : (k x : List ℕ) (xs : List (List ℕ)) → name_order k x ≡ Less → AllByRecursion (λ y. name_order x y ≡ Less) xs → AllByRecursion (λ y. name_order k y ≡ Less) xs
all_below = keys.all_below nat_list_cmp_total

pub all_apart : (k : List ℕ) (xs : List (List ℕ)) → AllByRecursion (λ y. name_order k y ≡ Less) xs → AllByRecursion (λ y. bytes_eq k y ≡ false) xs
all_apart k [] g = tt
all_apart k (y ∷ ys) g = (apart_by_order k y Less g.0 refl, all_apart k ys g.1)

-- below all of a list, where it is below the first of them and they ascend
pub below_all : (k x : List ℕ) (xs : List (List ℕ)) → name_order k x ≡ Less → IsStrictlySortedBy name_order (x ∷ xs) → AllByRecursion (λ y. name_order k y ≡ Less) (x ∷ xs)
unfolding IsStrictlySortedBy
below_all k x xs h sorted = (h, all_below k x xs h sorted.0)

pub sorted_insert : (ks : List (List ℕ)) (k : List ℕ) → IsStrictlySortedBy name_order ks → IsStrictlySortedBy name_order (insert_key name_order ks k)
sorted_insert = keys.sorted_insert name_order nat_list_cmp_total

-- a name is among some and one more where it is that one or among the others
pub any_insert : (test : List ℕ → Bool) (ks : List (List ℕ)) (k : List ℕ) → list_any test (insert_key name_order ks k) ≡ (test k || list_any test ks)
any_insert = keys.any_insert name_order exact_bytes
