-- Whether things ascend, told from each and the next.
use Rattle.std.proofs.Common.{◌≡◌, Bool, true, false, List, [], ◌∷◌, arith, refl}
use Rattle.std.specs.Prelude.{◌↔◌}
use Rattle.std.specs.Cmp.{IsTotalOrder}
use Rattle.std.specs.Bool.{IsTrue}
use Rattle.std.specs.List.{IsAllAdjacentAnswer}
use Rattle.std.specs.List.Sorted.{IsStrictlySortedBy}
use Rattle.std.specs.Ordering.{is_lt}
use Rattle.std.specs.declared.cmp.Ordering.{Ordering}
use Rattle.catalogue.proofs.IdFacts.{keys_by_neighbours}

-- things ascend just if each is below the next
pub by_neighbours : {K : Type 0} {cmp : K → K → Ordering} → IsTotalOrder cmp → (keys : List K) (answer : Bool)
    → IsAllAdjacentAnswer (λ a b is. is ≡ is_lt (cmp a b)) keys answer → IsTrue answer ↔ IsStrictlySortedBy cmp keys
unfolding IsStrictlySortedBy
by_neighbours total [] true said = (λ _. tt, λ _. refl)
by_neighbours total [] false said = absurd (omega (arith, said.1))
by_neighbours total (key ∷ keys) answer said = keys_by_neighbours total key (key ∷ keys) answer said
