-- Looking for an id by halves among ids that ascend, or among what ascends by ids.
use Rattle.std.proofs.Common.{◌≡◌, ℕ, zero, suc, ◌<◌, ◌≤◌, true, false, List, [], ◌∷◌, length, map, map-id, get_or, Some, Ok, Err, inl, inr, refl, sym, subst, ap, arith}
use Rattle.std.specs.List.{AllByRecursion, slice_get}
use Rattle.std.specs.List.Sorted.{IsBinarySearchResult, IsNonDecreasingBy, IsStrictlySortedBy}
use Rattle.std.specs.Ordering.{ordering_index}
use Rattle.std.specs.declared.cmp.Ordering.{Ordering}
use Rattle.std.specs.declared.cmp.Ordering.TheVariants.{Less, Equal, Greater}
use Rattle.std.proofs.lemmas.Bool.{cases_lt}
use Rattle.lemmas.proofs.TestFacts.{most_index, or_true}
use Rattle.catalogue.specs.Ids.{Ascend, id_cmp, same_id}
use Rattle.catalogue.proofs.IdFacts.{apart, apart_back, exact_ids, ids_total, itself, turned}
use Rattle.supersede.specs.Reach.{has}

-- the comparison with an id rises with the ids
rises_by : (a b id : List ℕ) (o : Ordering) → id_cmp b id ≡ o → id_cmp a b ≡ Less → ordering_index (id_cmp a id) ≤ ordering_index o
rises_by a b id Less at below = let less : id_cmp a id ≡ Less = ids_total.trans a b id below at in rw less (omega arith)
rises_by a b id Equal at below = let is : b ≡ id = exact_ids b id at in let less : id_cmp a id ≡ Less = rw (← is) below in rw less (omega arith)
rises_by a b id Greater at below = most_index (id_cmp a id)

-- what holds of every key holds of the one at an index
pub at_index : {X : Type 0} → (key : X → List ℕ) (P : List ℕ → Type 0) (xs : List X) → AllByRecursion P (map key xs) → (k : ℕ) (d : X) → k < length xs → P (key (get_or xs k d))
at_index key P [] all k d within = absurd (omega arith)
at_index key P (x ∷ xs) all zero d within = all.0
at_index key P (x ∷ xs) all (suc k) d within = at_index key P xs all.1 k d (omega arith)

-- the comparison with an id rises along what ascends by its key
pub rises : {X : Type 0} → (key : X → List ℕ) (xs : List X) (id : List ℕ) → Ascend (map key xs) → IsNonDecreasingBy (λ x. ordering_index (id_cmp (key x) id)) xs
unfolding IsStrictlySortedBy
rises key [] id ascend i j d le within = absurd (omega arith)
rises key (x ∷ xs) id ascend zero zero d le within = omega arith
rises key (x ∷ xs) id ascend zero (suc j) d le within =
    rises_by (key x) (key (get_or xs j d)) id (id_cmp (key (get_or xs j d)) id) refl (at_index key (λ other. id_cmp (key x) other ≡ Less) xs ascend.0 j d (omega arith))
rises key (x ∷ xs) id ascend (suc i) zero d le within = absurd (omega arith)
rises key (x ∷ xs) id ascend (suc i) (suc j) d le within = rises key xs id ascend.1 i j d (omega arith) (omega arith)

none_has : (ids : List (List ℕ)) (id : List ℕ) → ((k : ℕ) (d : List ℕ) → k < length ids → same_id id (get_or ids k d) ≡ false) → has ids id ≡ false
none_has [] id differ = refl
none_has (x ∷ ids) id differ = rw (differ zero x (omega arith)) (none_has ids id (λ k d within. differ (suc k) d (omega arith)))

pub some_has : (ids : List (List ℕ)) (id : List ℕ) (k : ℕ) → slice_get ids k ≡ Some id → has ids id ≡ true
some_has [] id k at = absurd (cc at)
some_has (x ∷ ids) id zero at = let is : x ≡ id = cc at in rw (is, itself id) refl
some_has (x ∷ ids) id (suc k) at = rw (some_has ids id k at) (or_true (same_id id x))

got : (ids : List (List ℕ)) (id : List ℕ) (k : ℕ) → k < length ids → ((d : List ℕ) → id_cmp (get_or ids k d) id ≡ Equal) → slice_get ids k ≡ Some id
got [] id k within equal = absurd (omega arith)
got (x ∷ ids) id zero within equal = ap Some (exact_ids x id (equal x))
got (x ∷ ids) id (suc k) within equal = got ids id k (omega arith) equal

pub index_found : (ids : List (List ℕ)) (id : List ℕ) (at : ℕ) → at < length ids → IsBinarySearchResult (λ other. id_cmp other id) ids (Ok at) → slice_get ids at ≡ Some id
index_found ids id at within found = got ids id at within found

pub not_found : (ids : List (List ℕ)) (id : List ℕ) (at : ℕ) → Ascend ids → IsBinarySearchResult (λ other. id_cmp other id) ids (Err at) → has ids id ≡ false
not_found ids id at ascend parted =
    let parts = parted (rises (λ other. other) ids id (subst Ascend (sym (map-id ids)) ascend)) in
    none_has ids id (λ k d in_list. elim (cases_lt k at) [
      | inl below ↦ apart_back (get_or ids k d) id (parts.0 k d (omega arith) below)
      | inr from ↦ apart id (get_or ids k d) (turned (get_or ids k d) id (parts.1 k d from in_list))
    ])
