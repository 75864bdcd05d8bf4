-- What is put under a key, in the order of the keys, one for each.
use Rattle.std.proofs.Common.{◌≡◌, ◌∙◌, Bool, true, false, List, [], ◌∷◌, ◌≤◌, Option, Some, arith, filter, length, map, if◌then◌else◌, refl, sym, ap, subst}
use Rattle.std.specs.BTreeMap.{insert_entry}
use Rattle.std.specs.BTreeSet.{insert_key, replace_key}
use Rattle.std.specs.Cmp.{IsTotalOrder}
use Rattle.std.specs.List.{AllByRecursion, flat_map, fold}
use Rattle.std.specs.List.Sorted.{IsStrictlySortedBy}
use Rattle.std.specs.Ordering.{match_ordering}
use Rattle.std.specs.declared.cmp.Ordering.{Ordering}
use Rattle.std.specs.declared.cmp.Ordering.TheVariants.{Less, Equal, Greater}
use Rattle.std.proofs.lemmas.List.Folds.{flat_map-map}
use Rattle.std.proofs.lemmas.Map.Lookups.{CmpEqualImpliesEq}
use Rattle.holddata.proofs.InsertFacts.{all_below, sorted_insert}
use Rattle.reports.specs.Resolvers.{each_or_none}

-- ---- lists

pub map_map : {X Y Z : Type 0} → (f : Y → Z) (g : X → Y) (xs : List X) → map f (map g xs) ≡ map (λ x. f (g x)) xs
map_map f g [] = refl
map_map f g (x ∷ xs) = ap (λ ys. f (g x) ∷ ys) (map_map f g xs)

-- each of several is what stands for them
pub each_is : {X Y : Type 0} → (f : Option X → Y) (xs : List X) → 1 ≤ length xs → map (λ x. f (Some x)) xs ≡ map f (each_or_none xs)
each_is f [] some = absurd (omega (arith, some))
each_is f (first ∷ more) some = sym (map_map f Some (first ∷ more))

map_insert : {X Y : Type 0} → (f : X → Y) (cmp : Y → Y → Ordering) (ks : List X) (k : X) → map f (insert_key (λ a b. cmp (f a) (f b)) ks k) ≡ insert_key cmp (map f ks) (f k)
map_insert f cmp [] k = refl
map_insert f cmp (x ∷ xs) k = by (cmp (f k) (f x)) (map_insert f cmp xs k)
  where
    by : (o : Ordering) → map f (insert_key (λ a b. cmp (f a) (f b)) xs k) ≡ insert_key cmp (map f xs) (f k)
        → map f (match_ordering o (k ∷ x ∷ xs) (x ∷ xs) (x ∷ insert_key (λ a b. cmp (f a) (f b)) xs k)) ≡ match_ordering o (f k ∷ f x ∷ map f xs) (f x ∷ map f xs) (f x ∷ insert_key cmp (map f xs) (f k))
    by Less rest = refl
    by Equal rest = refl
    by Greater rest = ap (λ ys. f x ∷ ys) rest

map_fold : {X Y : Type 0} → (f : X → Y) (cmp : Y → Y → Ordering) (ks xs : List X) → map f (fold (insert_key (λ a b. cmp (f a) (f b))) ks xs) ≡ fold (insert_key cmp) (map f ks) (map f xs)
map_fold f cmp ks [] = refl
map_fold f cmp ks (x ∷ xs) = map_fold f cmp (insert_key (λ a b. cmp (f a) (f b)) ks x) xs ∙ ap (λ ys. fold (insert_key cmp) ys (map f xs)) (map_insert f cmp ks x)

-- ---- keys in order, of which those stay that pass a test

module _ {K : Type 0} {cmp : K → K → Ordering} (total : IsTotalOrder cmp) (exact : CmpEqualImpliesEq cmp) (p : K → Bool) where
  put_first : (k : K) (ks : List K) → AllByRecursion (λ y. cmp k y ≡ Less) ks → insert_key cmp ks k ≡ k ∷ ks
  put_first k [] above = refl
  put_first k (x ∷ xs) above =
      let P : Ordering → Type 0 = λ o. match_ordering o (k ∷ x ∷ xs) (x ∷ xs) (x ∷ insert_key cmp xs k) ≡ k ∷ x ∷ xs in
      subst P (sym above.0) refl

  all_kept : (P : K → Type 0) (ks : List K) → AllByRecursion P ks → AllByRecursion P (filter p ks)
  all_kept P [] all = tt
  all_kept P (x ∷ xs) all = by (p x) (all_kept P xs all.1)
    where
      by : (b : Bool) → AllByRecursion P (filter p xs) → AllByRecursion P (if b then x ∷ filter p xs else filter p xs)
      by true rest = (all.0, rest)
      by false rest = rest

  left_out : (ks : List K) (k : K) → p k ≡ false → filter p (insert_key cmp ks k) ≡ filter p ks
  left_out [] k h = rw h refl
  left_out (x ∷ xs) k h = by (cmp k x) (left_out xs k h)
    where
      by : (o : Ordering) → filter p (insert_key cmp xs k) ≡ filter p xs → filter p (match_ordering o (k ∷ x ∷ xs) (x ∷ xs) (x ∷ insert_key cmp xs k)) ≡ filter p (x ∷ xs)
      by Less rest = rw h refl
      by Equal rest = refl
      by Greater rest = ap (λ l. if p x then x ∷ l else l) rest

  kept_put : (ks : List K) (k : K) → IsStrictlySortedBy cmp ks → p k ≡ true → filter p (insert_key cmp ks k) ≡ insert_key cmp (filter p ks) k
  unfolding IsStrictlySortedBy
  kept_put [] k sorted h = rw h refl
  kept_put (x ∷ xs) k sorted h = by (cmp k x) refl (kept_put xs k sorted.1 h)
    where
      less : cmp k x ≡ Less → filter p (k ∷ x ∷ xs) ≡ insert_key cmp (filter p (x ∷ xs)) k
      less is =
          let first : filter p (k ∷ x ∷ xs) ≡ k ∷ filter p (x ∷ xs) = rw h refl in
          first ∙ sym (put_first k (filter p (x ∷ xs)) (all_kept (λ y. cmp k y ≡ Less) (x ∷ xs) (is, all_below total k x xs is sorted.0)))

      equal : cmp k x ≡ Equal → filter p (x ∷ xs) ≡ insert_key cmp (filter p (x ∷ xs)) k
      equal is =
          let on : p x ≡ true = ap p (sym (exact k x is)) ∙ h in
          let same : filter p (x ∷ xs) ≡ x ∷ filter p xs = rw on refl in
          let P : Ordering → Type 0 = λ o. match_ordering o (k ∷ x ∷ filter p xs) (x ∷ filter p xs) (x ∷ insert_key cmp (filter p xs) k) ≡ x ∷ filter p xs in
          let put : insert_key cmp (x ∷ filter p xs) k ≡ x ∷ filter p xs = subst P (sym is) refl in
          same ∙ sym put ∙ ap (λ l. insert_key cmp l k) (sym same)

      greater : cmp k x ≡ Greater → filter p (insert_key cmp xs k) ≡ insert_key cmp (filter p xs) k → (b : Bool)
          → (if b then x ∷ filter p (insert_key cmp xs k) else filter p (insert_key cmp xs k)) ≡ insert_key cmp (if b then x ∷ filter p xs else filter p xs) k
      greater is rest true =
          let P : Ordering → Type 0 = λ o. x ∷ filter p (insert_key cmp xs k) ≡ match_ordering o (k ∷ x ∷ filter p xs) (x ∷ filter p xs) (x ∷ insert_key cmp (filter p xs) k) in
          subst P (sym is) (ap (λ l. x ∷ l) rest)
      greater is rest false = rest

      by : (o : Ordering) → cmp k x ≡ o → filter p (insert_key cmp xs k) ≡ insert_key cmp (filter p xs) k → filter p (match_ordering o (k ∷ x ∷ xs) (x ∷ xs) (x ∷ insert_key cmp xs k)) ≡ insert_key cmp (filter p (x ∷ xs)) k
      by Less is rest = less is
      by Equal is rest = equal is
      by Greater is rest = greater is rest (p x)

  kept_puts : (ks more : List K) → IsStrictlySortedBy cmp ks → filter p (fold (insert_key cmp) ks more) ≡ fold (insert_key cmp) (filter p ks) (filter p more)
  kept_puts ks [] sorted = refl
  kept_puts ks (k ∷ more) sorted =
      kept_puts (insert_key cmp ks k) more (sorted_insert cmp total ks k sorted) ∙ by (p k) refl
    where
      by : (b : Bool) → p k ≡ b → fold (insert_key cmp) (filter p (insert_key cmp ks k)) (filter p more) ≡ fold (insert_key cmp) (filter p ks) (if b then k ∷ filter p more else filter p more)
      by true h = ap (λ l. fold (insert_key cmp) l (filter p more)) (kept_put ks k sorted h)
      by false h = ap (λ l. fold (insert_key cmp) l (filter p more)) (left_out ks k h)

-- ---- what is put under its key, of which the last counts

module _ {X K : Type 0} (key : X → K) (cmp : K → K → Ordering) (exact : CmpEqualImpliesEq cmp) where
  abbrev pub order : X → X → Ordering
  order a b = cmp (key a) (key b)

  abbrev pub under : List X → List (K × X)
  under xs = map (λ x. (key x, x)) xs

  one_put : (xs : List X) (x : X) → insert_entry cmp (under xs) (key x) x ≡ under (replace_key order xs x)
  one_put [] x = refl
  one_put (y ∷ ys) x = by (cmp (key x) (key y)) refl (one_put ys x)
    where
      by : (o : Ordering) → cmp (key x) (key y) ≡ o → insert_entry cmp (under ys) (key x) x ≡ under (replace_key order ys x)
          → match_ordering o ((key x, x) ∷ (key y, y) ∷ under ys) ((key y, x) ∷ under ys) ((key y, y) ∷ insert_entry cmp (under ys) (key x) x)
          ≡ under (match_ordering o (x ∷ y ∷ ys) (x ∷ ys) (y ∷ replace_key order ys x))
      by Less is rest = refl
      by Equal is rest = ap (λ k. (k, x) ∷ under ys) (sym (exact (key x) (key y) is))
      by Greater is rest = ap (λ l. (key y, y) ∷ l) rest

  pub all_put : (xs more : List X) → fold (λ old x. insert_entry cmp old (key x) x) (under xs) more ≡ under (fold (replace_key order) xs more)
  all_put xs [] = refl
  all_put xs (x ∷ more) = ap (λ es. fold (λ old x. insert_entry cmp old (key x) x) es more) (one_put xs x) ∙ all_put (replace_key order xs x) more

  values_under : (xs : List X) → map (λ (e : K × X). e.1) (under xs) ≡ xs
  values_under [] = refl
  values_under (x ∷ xs) = ap (λ l. x ∷ l) (values_under xs)

  -- the values, in the order of their keys
  pub values_put : (xs : List X) → map (λ (e : K × X). e.1) (fold (λ old x. insert_entry cmp old (key x) x) [] xs) ≡ fold (replace_key order) [] xs
  values_put xs = ap (map (λ (e : K × X). e.1)) (all_put [] xs) ∙ values_under (fold (replace_key order) [] xs)

  key_replaced : (xs : List X) (x : X) → map key (replace_key order xs x) ≡ insert_key cmp (map key xs) (key x)
  key_replaced [] x = refl
  key_replaced (y ∷ ys) x = by (cmp (key x) (key y)) refl (key_replaced ys x)
    where
      by : (o : Ordering) → cmp (key x) (key y) ≡ o → map key (replace_key order ys x) ≡ insert_key cmp (map key ys) (key x)
          → map key (match_ordering o (x ∷ y ∷ ys) (x ∷ ys) (y ∷ replace_key order ys x)) ≡ match_ordering o (key x ∷ key y ∷ map key ys) (key y ∷ map key ys) (key y ∷ insert_key cmp (map key ys) (key x))
      by Less is rest = refl
      by Equal is rest = ap (λ k. k ∷ map key ys) (exact (key x) (key y) is)
      by Greater is rest = ap (λ l. key y ∷ l) rest

  keys_replaced : (xs more : List X) → map key (fold (replace_key order) xs more) ≡ fold (insert_key cmp) (map key xs) (map key more)
  keys_replaced xs [] = refl
  keys_replaced xs (x ∷ more) = keys_replaced (replace_key order xs x) more ∙ ap (λ ks. fold (insert_key cmp) ks (map key more)) (key_replaced xs x)

  module _ (total : IsTotalOrder cmp) {R : Type 0} (rows : K → List R) (p : K → Bool) where
    keys_kept : (xs : List X) → map key (filter (λ x. p (key x)) xs) ≡ filter p (map key xs)
    keys_kept [] = refl
    keys_kept (x ∷ xs) = by (p (key x)) (keys_kept xs)
      where
        by : (b : Bool) → map key (filter (λ x. p (key x)) xs) ≡ filter p (map key xs)
            → map key (if b then x ∷ filter (λ x. p (key x)) xs else filter (λ x. p (key x)) xs) ≡ (if b then key x ∷ filter p (map key xs) else filter p (map key xs))
        by true rest = ap (λ l. key x ∷ l) rest
        by false rest = rest

    none_sorted : IsStrictlySortedBy cmp []
    unfolding IsStrictlySortedBy
    none_sorted = tt

    -- rows of the kept in order are rows of what is in order, of which those are left out that are not kept
    pub rows_kept : (xs : List X)
        → flat_map (λ x. rows (key x)) (fold (replace_key order) [] (filter (λ x. p (key x)) xs)) ≡ flat_map (λ x. rows (key x)) (filter (λ x. p (key x)) (fold (insert_key order) [] xs))
    rows_kept xs =
        sym (flat_map-map rows key (fold (replace_key order) [] (filter (λ x. p (key x)) xs)))
        ∙ ap (flat_map rows)
        (keys_replaced [] (filter (λ x. p (key x)) xs)
        ∙ ap (fold (insert_key cmp) []) (keys_kept xs)
        ∙ sym (kept_puts total exact p [] (map key xs) none_sorted)
        ∙ ap (filter p) (sym (map_fold key cmp [] xs))
        ∙ sym (keys_kept (fold (insert_key order) [] xs)))
        ∙ flat_map-map rows key (filter (λ x. p (key x)) (fold (insert_key order) [] xs))

-- what is put in order after a step is what is put in order, each by that step
module _ {X Y : Type 0} (f : X → Y) (order : Y → Y → Ordering) where
  step_replaced : (xs : List X) (x : X) → replace_key order (map f xs) (f x) ≡ map f (replace_key (λ a b. order (f a) (f b)) xs x)
  step_replaced [] x = refl
  step_replaced (y ∷ ys) x = by (order (f x) (f y)) (step_replaced ys x)
    where
      by : (o : Ordering) → replace_key order (map f ys) (f x) ≡ map f (replace_key (λ a b. order (f a) (f b)) ys x)
          → match_ordering o (f x ∷ f y ∷ map f ys) (f x ∷ map f ys) (f y ∷ replace_key order (map f ys) (f x)) ≡ map f (match_ordering o (x ∷ y ∷ ys) (x ∷ ys) (y ∷ replace_key (λ a b. order (f a) (f b)) ys x))
      by Less rest = refl
      by Equal rest = refl
      by Greater rest = ap (λ l. f y ∷ l) rest

  pub steps_replaced : (xs more : List X) → fold (replace_key order) (map f xs) (map f more) ≡ map f (fold (replace_key (λ a b. order (f a) (f b))) xs more)
  steps_replaced xs [] = refl
  steps_replaced xs (x ∷ more) =
      ap (λ ys. fold (replace_key order) ys (map f more)) (step_replaced xs x) ∙ steps_replaced (replace_key (λ a b. order (f a) (f b)) xs x) more
