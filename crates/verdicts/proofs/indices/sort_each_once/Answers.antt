use Rattle.std.proofs.Common.{List, ℕ, subst}
use Rattle.std.specs.List.{Contains}
use Rattle.std.specs.Cmp.Lexicographic.{nat_list_eq_equiv}
use Rattle.std.proofs.lemmas.List.Filters.{dedup_is}
use Rattle.std.proofs.lemmas.List.Kept.{Contains-dedup, Contains-from_dedup, IsStrictlySortedBy-dedup}
use Rattle.std.proofs.lemmas.List.Sorted.{Contains-permutation, IsPermutation-sym}
use Rattle.catalogue.specs.Ids.{in_order}
use Rattle.catalogue.proofs.IdFacts.{ids_total, in_order_ascends, in_order_has, one_id, same_is}
use Rattle.verdicts.proofs.OrderFacts.{ascending_same}
use Rattle.verdicts.proofs.indices.sort_each_once.Goals as goal

pub returns-clause-ascend : goal.returns-clause-ascend
returns-clause-ascend c = rw (dedup_is _ _ _ c.dedup.ensures.filtered) (IsStrictlySortedBy-dedup ids_total same_is _ c.in_ok-sort.ensures.sorted)

pub returns-clause-keeps : goal.returns-clause-keeps
returns-clause-keeps c = λ id inside.
    rw (dedup_is _ _ _ c.dedup.ensures.filtered) (Contains-dedup nat_list_eq_equiv one_id _ id (Contains-permutation _ _ id c.in_ok-sort.ensures.permutation inside))

only : (c : goal.After-dedup) → (id : List ℕ) → Contains c.dedup.new.self.items id → Contains c.args.ids.now.items id
only c id inside =
    let P : List (List ℕ) → Type 0 = λ l. Contains l id in
    Contains-permutation _ _ id (IsPermutation-sym _ _ c.in_ok-sort.ensures.permutation) (Contains-from_dedup _ _ id (subst P (dedup_is _ _ _ c.dedup.ensures.filtered) inside))

pub returns-clause-in_order : goal.returns-clause-in_order
returns-clause-in_order c =
    let new = c.dedup.new.self.items in
    let old = c.args.ids.now.items in
    ascending_same new (in_order old) (returns-clause-ascend c) (in_order_ascends old)
    (λ id inside. (in_order_has old id).1 (only c id inside))
    (λ id inside. returns-clause-keeps c id ((in_order_has old id).0 inside))
