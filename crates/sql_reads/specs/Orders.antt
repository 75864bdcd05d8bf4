-- No part of what is promised: what ascends by a key.
use Rattle.std.specs.Prelude.{◌≡◌, ◌↔◌, List, [], ◌∷◌, map}
use Rattle.std.specs.List.{AllByRecursion}
use Rattle.std.specs.List.Sorted.{IsStrictlySortedBy}
use Rattle.std.specs.declared.cmp.Ordering.{Ordering}
use Rattle.std.specs.declared.cmp.Ordering.TheVariants.{Less}

module _ {X K : Type 0} (cmp : K → K → Ordering) (key : X → K) where
  below_keys : (x : X) (ys : List X) → AllByRecursion (λ y. cmp (key x) (key y) ≡ Less) ys → AllByRecursion (λ k. cmp (key x) k ≡ Less) (map key ys)
  below_keys x [] all = tt
  below_keys x (y ∷ ys) all = (all.0, below_keys x ys all.1)

  below_each : (x : X) (ys : List X) → AllByRecursion (λ k. cmp (key x) k ≡ Less) (map key ys) → AllByRecursion (λ y. cmp (key x) (key y) ≡ Less) ys
  below_each x [] all = tt
  below_each x (y ∷ ys) all = (all.0, below_each x ys all.1)

  keys_ascend : (xs : List X) → IsStrictlySortedBy (λ a b. cmp (key a) (key b)) xs → IsStrictlySortedBy cmp (map key xs)
  unfolding IsStrictlySortedBy
  keys_ascend [] ascend = tt
  keys_ascend (x ∷ xs) ascend = (below_keys x xs ascend.0, keys_ascend xs ascend.1)

  each_ascends : (xs : List X) → IsStrictlySortedBy cmp (map key xs) → IsStrictlySortedBy (λ a b. cmp (key a) (key b)) xs
  unfolding IsStrictlySortedBy
  each_ascends [] ascend = tt
  each_ascends (x ∷ xs) ascend = (below_each x xs ascend.0, each_ascends xs ascend.1)

  -- keys ascend exactly if the entries with these keys ascend by them
  pub ascends_by : (xs : List X) → IsStrictlySortedBy cmp (map key xs) ↔ IsStrictlySortedBy (λ a b. cmp (key a) (key b)) xs
  ascends_by xs = (each_ascends xs, keys_ascend xs)
