-- Ids that compare alike are one, and lists of them in order.
use Rattle.std.proofs.Common.{◌≡◌, ℕ, ◌+◌, Bool, true, false, ◌||◌, List, [], arith, get_or, refl, sym, ◌∙◌, ap}
use Rattle.std.specs.BTreeSet.{insert_key}
use Rattle.std.specs.Cmp.{IsTotalOrder}
use Rattle.std.specs.Cmp.Lexicographic.{nat_list_cmp_total, nat_list_eq_equiv}
use Rattle.std.specs.Bool.{IsTrue}
use Rattle.std.specs.List.{fold, list_any, AllByRecursion, IsAllAdjacentAnswer}
use Rattle.std.specs.List.Sorted.{IsStrictlySortedBy}
use Rattle.std.specs.Ordering.{ordering_reverse, is_eq, is_lt}
use Rattle.std.specs.Prelude.{Contains, ◌↔◌}
use Rattle.std.specs.declared.cmp.Ordering.{Ordering}
use Rattle.std.specs.declared.cmp.Ordering.TheVariants.{Less, Equal, Greater}
use Rattle.std.proofs.lemmas.Map.Keys.{Less-from_sorted, sorted_from_all_adjacent}
use Rattle.std.proofs.lemmas.Map.Lookups.{CmpEqualImpliesEq, exact_bytes}
use Rattle.std.proofs.lemmas.Map.Text.{is_eq-slice_cmp}
use Rattle.std.proofs.lemmas.Map.Views.{Contains-from_any, list_any-from_Contains}
use Rattle.std.proofs.lemmas.Slice.Eq.{bytes_eq-Decides}
use Rattle.holddata.proofs.FoundFacts.{IsKeyOrder}
use Rattle.holddata.proofs.InsertFacts as keys
use Rattle.std.proofs.lemmas.Cmp.{on_total, then_total}
use Rattle.catalogue.specs.Conditional.{cond_cmp}
use Rattle.catalogue.specs.declared.conditional.CondNeed.{CondNeed}
use Rattle.catalogue.specs.Ids.{id_cmp, same_id, Ascend, in_order}

pub ids_total : IsTotalOrder id_cmp
ids_total = nat_list_cmp_total

pub exact_ids : CmpEqualImpliesEq id_cmp
exact_ids = exact_bytes

pub one_id : (a b : List ℕ) → same_id a b ≡ true → a ≡ b
one_id a b h = (bytes_eq-Decides a b).0 h

pub itself : (a : List ℕ) → same_id a a ≡ true
itself a = (bytes_eq-Decides a a).1 refl

pub same_is : (a b : List ℕ) → same_id a b ≡ is_eq (id_cmp a b)
same_is a b = sym (is_eq-slice_cmp a b)

pub same_back : (a b : List ℕ) → same_id a b ≡ same_id b a
same_back a b = nat_list_eq_equiv.symm a b

-- ids are known by the order of their bytes
pub id_order : IsKeyOrder id_cmp (λ a b. same_id b a)
id_order = record { total = ids_total; exact = exact_ids; decides = λ a b. same_back b a ∙ same_is a b }

pub apart : (a b : List ℕ) → id_cmp a b ≡ Less → same_id a b ≡ false
apart a b h = same_is a b ∙ ap is_eq h

pub turned : (a b : List ℕ) → id_cmp a b ≡ Greater → id_cmp b a ≡ Less
turned a b h = ids_total.antisymm b a ∙ ap ordering_reverse h

pub apart_back : (a b : List ℕ) → id_cmp a b ≡ Less → same_id b a ≡ false
apart_back a b h = same_is b a ∙ ap is_eq (ids_total.antisymm b a ∙ ap ordering_reverse h)

-- ---- one id put where it belongs

pub any_insert : (test : List ℕ → Bool) (ks : List (List ℕ)) (k : List ℕ) → list_any test (insert_key id_cmp ks k) ≡ (test k || list_any test ks)
any_insert = keys.any_insert id_cmp exact_ids

pub all_below : (k x : List ℕ) (xs : List (List ℕ)) → id_cmp k x ≡ Less → AllByRecursion (λ y. id_cmp x y ≡ Less) xs → AllByRecursion (λ y. id_cmp k y ≡ Less) xs
all_below = keys.all_below ids_total

pub insert_ascends : (ks : List (List ℕ)) (k : List ℕ) → Ascend ks → Ascend (insert_key id_cmp ks k)
insert_ascends = keys.sorted_insert id_cmp ids_total

-- ---- all ids of a list

-- those that are put among ids, and these
pub fold_any : (test : List ℕ → Bool) (ks ids : List (List ℕ)) → list_any test (fold (insert_key id_cmp) ks ids) ≡ (list_any test ks || list_any test ids)
fold_any = keys.any_puts id_cmp exact_ids

pub in_order_ascends : (ids : List (List ℕ)) → Ascend (in_order ids)
unfolding IsStrictlySortedBy
in_order_ascends ids = keys.sorted_puts id_cmp ids_total [] ids tt

pub in_order_any : (test : List ℕ → Bool) (ids : List (List ℕ)) → list_any test (in_order ids) ≡ list_any test ids
in_order_any test ids = fold_any test [] ids

-- the ids in order are those of the list
pub in_order_has : (ids : List (List ℕ)) (id : List ℕ) → Contains (in_order ids) id ↔ Contains ids id
in_order_has ids id = (
  λ h. Contains-from_any {eq = same_id} one_id id ids (sym (in_order_any (same_id id) ids) ∙ list_any-from_Contains {eq = same_id} nat_list_eq_equiv id (in_order ids) h),
  λ h. Contains-from_any {eq = same_id} one_id id (in_order ids) (in_order_any (same_id id) ids ∙ list_any-from_Contains {eq = same_id} nat_list_eq_equiv id ids h),
)

-- ---- whether ids ascend

pub lower : (o : Ordering) → true ≡ is_lt o → o ≡ Less
lower Less h = refl
lower Equal h = cc
lower Greater h = cc

pub not_lower : (o : Ordering) → false ≡ is_lt o → o ≡ Less → ⊥
not_lower Less h e = let f : false ≡ true = h in cc
not_lower Equal h e = cc
not_lower Greater h e = cc

-- keys ascend just if each is below the next
pub keys_by_neighbours : {K : Type 0} {cmp : K → K → Ordering} → IsTotalOrder cmp → (d : K) (keys : List K) (answer : Bool)
    → IsAllAdjacentAnswer (λ a b is. is ≡ is_lt (cmp a b)) keys answer → IsTrue answer ↔ IsStrictlySortedBy cmp keys
keys_by_neighbours {K} {cmp} total d keys true said = (λ _. sorted_from_all_adjacent total keys d (λ k within. lower (cmp (get_or keys k d) (get_or keys (k + 1) d)) (said k d within)), λ _. refl)
keys_by_neighbours {K} {cmp} total d keys false said = (
  λ h. let f : false ≡ true = h in cc,
  λ h. absurd (not_lower (cmp (get_or keys said.0 d) (get_or keys (said.0 + 1) d)) (said.2 d) (Less-from_sorted cmp keys said.0 (said.0 + 1) d h (omega arith) said.1)),
)

-- and so do ids
pub ascend_by_neighbours : (ids : List (List ℕ)) (answer : Bool) → IsAllAdjacentAnswer (λ a b is. is ≡ is_lt (id_cmp a b)) ids answer → IsTrue answer ↔ Ascend ids
ascend_by_neighbours = keys_by_neighbours ids_total []

-- requisites under conditions have a total order
pub conds_total : IsTotalOrder cond_cmp
conds_total = then_total (on_total (λ (c : CondNeed). c.fmid) ids_total) (on_total (λ (c : CondNeed). c.need) ids_total)
