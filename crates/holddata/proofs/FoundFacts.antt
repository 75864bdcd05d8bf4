-- What is found in lists, and in lists in ascending order of a key: those are known by what is found in them.
use Rattle.std.proofs.Common.{◌≡◌, Bool, true, false, cond, ◌||◌, List, [], ◌∷◌, refl, sym, ◌∙◌, ap, subst}
use Rattle.std.specs.Prelude.{filter, find, map, reverse, is_some, Option, Some, None}
use Rattle.std.specs.Cmp.{IsTotalOrder}
use Rattle.std.specs.List.{AllByRecursion, filter_map, cons_option, list_any}
use Rattle.std.specs.List.Sorted.{IsStrictlySortedBy}
use Rattle.std.specs.Option.{option_or}
use Rattle.std.specs.Ordering.{is_eq}
use Rattle.std.specs.declared.cmp.Ordering.{Ordering}
use Rattle.std.specs.declared.cmp.Ordering.TheVariants.{Less, Equal, Greater}
use Rattle.std.proofs.lemmas.Cmp.{tied_itself}
use Rattle.std.proofs.lemmas.List.{reverse-append}
use Rattle.std.proofs.lemmas.List.Folds.{find-append}
use Rattle.std.proofs.lemmas.Map.Lookups.{CmpEqualImpliesEq}
use Rattle.holddata.proofs.InsertFacts.{all_below, turned}

-- ---- the last one that passes a test

pub none_is : {X : Type 0} → (o : Option X) → is_some o ≡ false → o ≡ None
none_is None h = refl
none_is (Some x) h = cc

pub any_last : {X : Type 0} → (test : X → Bool) (xs : List X) → list_any test xs ≡ is_some (find test (reverse xs))
any_last test [] = refl
any_last {X} test (x ∷ xs) =
    by (find test (reverse xs)) (test x) (any_last test xs)
    ∙ sym (ap is_some (ap (find test) (reverse-append (x ∷ []) xs) ∙ find-append test (reverse xs) (x ∷ [])))
  where
    by : (o : Option X) (b : Bool) → list_any test xs ≡ is_some o → (b || list_any test xs) ≡ is_some (option_or o (cond b (Some x) None))
    by None true h = refl
    by None false h = h
    by (Some y) true h = refl
    by (Some y) false h = h

pub none_last : {X : Type 0} → (test : X → Bool) (xs : List X) → list_any test xs ≡ false → find test (reverse xs) ≡ None
none_last test xs h = none_is (find test (reverse xs)) (sym (any_last test xs) ∙ h)

-- ---- a total order of keys, and a test that two are one

pub record IsKeyOrder {K : Type 0} (cmp : K → K → Ordering) (same : K → K → Bool) : Type 0 where
  pub total : IsTotalOrder cmp
  pub exact : CmpEqualImpliesEq cmp
  pub decides : (a b : K) → same a b ≡ is_eq (cmp a b)

module _ {K : Type 0} {cmp : K → K → Ordering} {same : K → K → Bool} (order : IsKeyOrder cmp same) where
  pub one_key : (a b : K) → same a b ≡ true → a ≡ b
  one_key a b h = by (cmp a b) refl (sym (order.decides a b) ∙ h)
    where
      by : (o : Ordering) → cmp a b ≡ o → is_eq o ≡ true → a ≡ b
      by Less is h = cc
      by Equal is h = order.exact a b is
      by Greater is h = cc

  pub itself : (a : K) → same a a ≡ true
  itself a = order.decides a a ∙ ap is_eq (tied_itself order.total a)

  pub lower : (a b : K) → cmp a b ≡ Less → same a b ≡ false
  lower a b h = order.decides a b ∙ ap is_eq h

-- ---- lists in ascending order of a key

module _ {X K : Type 0} (key : X → K) {cmp : K → K → Ordering} {same : K → K → Bool} (order : IsKeyOrder cmp same) where
  -- the first with a key
  abbrev found : List X → K → Option X
  found xs k = find (λ x. same k (key x)) xs

  abbrev KeysAscend : List X → Type 0
  KeysAscend xs = IsStrictlySortedBy cmp (map key xs)

  -- what is found has the key
  pub found_own : (xs : List X) (k : K) (x : X) → found xs k ≡ Some x → key x ≡ k
  found_own [] k x h = cc
  found_own (y ∷ ys) k x h = by (found_own ys k x) (same k (key y)) refl h
    where
      by : (found ys k ≡ Some x → key x ≡ k) → (b : Bool) → same k (key y) ≡ b → cond b (Some y) (found ys k) ≡ Some x → key x ≡ k
      by rest true at e = (let f : y ≡ x = cc in ap key (sym f)) ∙ sym (one_key order k (key y) at)
      by rest false at e = rest e

  pub none_found : (k : K) (xs : List X) → AllByRecursion (λ y. cmp k y ≡ Less) (map key xs) → found xs k ≡ None
  none_found k [] h = refl
  none_found k (x ∷ xs) h = ap (λ b. cond b (Some x) (found xs k)) (lower order k (key x) h.0) ∙ none_found k xs h.1

  head_found : (x : X) (xs : List X) → found (x ∷ xs) (key x) ≡ Some x
  head_found x xs = ap (λ b. cond b (Some x) (found xs (key x))) (itself order (key x))

  -- two such lists in which each key is found alike are the same
  pub same_by_key : (a b : List X) → KeysAscend a → KeysAscend b → ((k : K) → found a k ≡ found b k) → a ≡ b
  unfolding IsStrictlySortedBy
  same_by_key [] [] s t h = refl
  same_by_key [] (y ∷ b) s t h = let e : None ≡ Some y = h (key y) ∙ head_found y b in cc
  same_by_key (x ∷ a) [] s t h = let e : Some x ≡ None = sym (head_found x a) ∙ h (key x) in cc
  same_by_key (x ∷ a) (y ∷ b) s t h = by (cmp (key x) (key y)) refl (same_by_key a b s.1 t.1)
    where
      below : (u v : X) (us vs : List X) → cmp (key u) (key v) ≡ Less → AllByRecursion (λ k. cmp (key v) k ≡ Less) (map key vs) → found (u ∷ us) (key u) ≡ found (v ∷ vs) (key u) → ⊥
      below u v us vs less rest e =
          let none : found (v ∷ vs) (key u) ≡ None = none_found (key u) (v ∷ vs) (less, all_below order.total (key u) (key v) (map key vs) less rest) in
          let some : found (u ∷ us) (key u) ≡ Some u = head_found u us in
          let f : Some u ≡ None = sym some ∙ e ∙ none in cc

      heads : key x ≡ key y → x ≡ y
      heads e =
          let f : Some x ≡ Some y = sym (head_found x a) ∙ h (key x) ∙ ap (found (y ∷ b)) e ∙ head_found y b in cc

      tails : x ≡ y → (k : K) (o : Bool) → same k (key x) ≡ o → found a k ≡ found b k
      tails e k true at =
          let is : k ≡ key x = one_key order k (key x) at in
          ap (found a) is ∙ none_found (key x) a s.0 ∙ sym (ap (found b) (is ∙ ap key e) ∙ none_found (key y) b t.0)
      tails e k false at =
          ap (λ o. cond o (Some x) (found a k)) (sym at) ∙ h k
          ∙ ap (λ o. cond o (Some y) (found b k)) (ap (λ z. same k (key z)) (sym e) ∙ at)

      by : (o : Ordering) → cmp (key x) (key y) ≡ o → (((k : K) → found a k ≡ found b k) → a ≡ b) → x ∷ a ≡ y ∷ b
      by Less is rest = absurd (below x y a b is t.0 (h (key x)))
      by Greater is rest = absurd (below y x b a (turned order.total (key x) (key y) is) s.0 (sym (h (key y))))
      by Equal is rest =
          let e : x ≡ y = heads (order.exact (key x) (key y) is) in
          let f : a ≡ b = rest (λ k. tails e k (same k (key x)) refl) in cc

  -- ---- some of a list

  all_filtered : (P : K → Type 0) (test : X → Bool) (xs : List X) → AllByRecursion P (map key xs) → AllByRecursion P (map key (filter test xs))
  all_filtered P test [] h = tt
  all_filtered P test (x ∷ xs) h = by (all_filtered P test xs h.1) (test x)
    where
      by : AllByRecursion P (map key (filter test xs)) → (b : Bool) → AllByRecursion P (map key (cond b (x ∷ filter test xs) (filter test xs)))
      by rest true = (h.0, rest)
      by rest false = rest

  pub filtered_ascend : (test : X → Bool) (xs : List X) → KeysAscend xs → KeysAscend (filter test xs)
  unfolding IsStrictlySortedBy
  filtered_ascend test [] h = tt
  filtered_ascend test (x ∷ xs) h = by (filtered_ascend test xs h.1) (test x)
    where
      by : KeysAscend (filter test xs) → (b : Bool) → KeysAscend (cond b (x ∷ filter test xs) (filter test xs))
      by rest true = (all_filtered (λ y. cmp (key x) y ≡ Less) test xs h.0, rest)
      by rest false = rest

-- ---- what there is for each of some keys

module _ {X K : Type 0} (key : X → K) {cmp : K → K → Ordering} {same : K → K → Bool} (order : IsKeyOrder cmp same)
    (f : K → Option X) (own : (k : K) (x : X) → f k ≡ Some x → key x ≡ k) where
  all_kept : (P : K → Type 0) (ks : List K) → AllByRecursion P ks → AllByRecursion P (map key (filter_map f ks))
  all_kept P [] h = tt
  all_kept P (k ∷ ks) h = by (all_kept P ks h.1) (f k) refl
    where
      by : AllByRecursion P (map key (filter_map f ks)) → (o : Option X) → f k ≡ o → AllByRecursion P (map key (cons_option o (filter_map f ks)))
      by rest None is = rest
      by rest (Some x) is = (subst P (sym (own k x is)) h.0, rest)

  pub kept_ascend : (ks : List K) → IsStrictlySortedBy cmp ks → IsStrictlySortedBy cmp (map key (filter_map f ks))
  unfolding IsStrictlySortedBy
  kept_ascend [] h = tt
  kept_ascend (k ∷ ks) h = by (kept_ascend ks h.1) (f k) refl
    where
      by : IsStrictlySortedBy cmp (map key (filter_map f ks)) → (o : Option X) → f k ≡ o → IsStrictlySortedBy cmp (map key (cons_option o (filter_map f ks)))
      by rest None is = rest
      by rest (Some x) is =
          (subst (λ i. AllByRecursion (λ y. cmp i y ≡ Less) (map key (filter_map f ks))) (sym (own k x is)) (all_kept (λ y. cmp k y ≡ Less) ks h.0), rest)

  pub kept_found : (ks : List K) (k : K) → find (λ x. same k (key x)) (filter_map f ks) ≡ cond (list_any (λ j. same k j) ks) (f k) None
  kept_found [] k = refl
  kept_found (j ∷ ks) k = by (kept_found ks k) (f j) refl (same k j) refl
    where
      by : find (λ x. same k (key x)) (filter_map f ks) ≡ cond (list_any (λ i. same k i) ks) (f k) None → (o : Option X) → f j ≡ o → (b : Bool) → same k j ≡ b
          → find (λ x. same k (key x)) (cons_option o (filter_map f ks)) ≡ cond (b || list_any (λ i. same k i) ks) (f k) None
      by rest None is true at = rest ∙ none (list_any (λ i. same k i) ks) (ap f (one_key order k j at) ∙ is)
        where
          none : (b : Bool) → f k ≡ None → cond b (f k) None ≡ f k
          none true h = refl
          none false h = sym h
      by rest None is false at = rest
      by rest (Some x) is true at =
          ap (λ b. cond b (Some x) (find (λ y. same k (key y)) (filter_map f ks))) (ap (λ i. same k i) (own j x is) ∙ at) ∙ sym (ap f (one_key order k j at) ∙ is)
      by rest (Some x) is false at =
          ap (λ b. cond b (Some x) (find (λ y. same k (key y)) (filter_map f ks))) (ap (λ i. same k i) (own j x is) ∙ at) ∙ rest
