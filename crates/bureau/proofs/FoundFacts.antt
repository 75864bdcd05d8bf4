-- Zones by names: what is found under each of some names in order.
use Rattle.std.proofs.Common.{◌≡◌, ℕ, Bool, true, false, ◌||◌, cond, List, [], ◌∷◌, refl, sym, ◌∙◌, ap, subst}
use Rattle.std.specs.Prelude.{Option, Some, None}
use Rattle.std.specs.BTreeMap.{insert_entry}
use Rattle.std.specs.BTreeSet.{insert_key}
use Rattle.std.specs.List.{AllByRecursion, cons_option, list_any}
use Rattle.std.specs.List.Sorted.{IsStrictlySortedBy}
use Rattle.std.specs.Map.{keys_of, lookup, remove_entry}
use Rattle.std.specs.Option.{option_map}
use Rattle.std.specs.Ordering.{match_ordering}
use Rattle.std.specs.Str.{bytes_eq}
use Rattle.std.specs.declared.cmp.Ordering.{Ordering}
use Rattle.std.specs.declared.cmp.Ordering.TheVariants.{Less, Equal, Greater}
use Rattle.std.proofs.lemmas.Map.Keys.{sorted_head, sorted_tail}
use Rattle.supersede.proofs.GivingFacts.{same_self}
use Rattle.bureau_store.specs.Tables.{name_order}
use Rattle.bureau.specs.Own.{found}
use Rattle.bureau.proofs.NamesFacts.{all_apart, apart_by_order, apart_turned, below_all, equal_name, same_name}

module _ {A : Type 0} where
  pub found_some : (at : List ℕ → Option A) (k : List ℕ) (ks : List (List ℕ)) (a : A) → at k ≡ Some a → found at (k ∷ ks) ≡ (k, a) ∷ found at ks
  found_some at k ks a is = ap (λ (o : Option A). cons_option (option_map (λ x. (k, x)) o) (found at ks)) is

  pub found_none : (at : List ℕ → Option A) (k : List ℕ) (ks : List (List ℕ)) → at k ≡ None → found at (k ∷ ks) ≡ found at ks
  found_none at k ks is = ap (λ (o : Option A). cons_option (option_map (λ x. (k, x)) o) (found at ks)) is

  -- what is under one name says nothing of names apart from it
  pub found_apart : (at at2 : List ℕ → Option A) (k : List ℕ) (ks : List (List ℕ)) → ((q : List ℕ) → bytes_eq k q ≡ false → at2 q ≡ at q) → AllByRecursion (λ y. bytes_eq k y ≡ false) ks → found at2 ks ≡ found at ks
  found_apart at at2 k [] same all = refl
  found_apart at at2 k (x ∷ xs) same all =
      ap (λ (o : Option A). cons_option (option_map (λ a. (x, a)) o) (found at2 xs)) (same x all.0)
      ∙ ap (λ rest. cons_option (option_map (λ a. (x, a)) (at x)) rest) (found_apart at at2 k xs same all.1)

  -- the same under every name
  pub found_same : (at at2 : List ℕ → Option A) (ks : List (List ℕ)) → ((q : List ℕ) → at2 q ≡ at q) → found at2 ks ≡ found at ks
  found_same at at2 [] same = refl
  found_same at at2 (x ∷ xs) same =
      ap (λ (o : Option A). cons_option (option_map (λ a. (x, a)) o) (found at2 xs)) (same x)
      ∙ ap (λ rest. cons_option (option_map (λ a. (x, a)) (at x)) rest) (found_same at at2 xs same)

  -- a name below all others comes first
  insert_below : (at : List ℕ → Option A) (k : List ℕ) (v : A) (ks : List (List ℕ)) → AllByRecursion (λ y. name_order k y ≡ Less) ks → insert_entry name_order (found at ks) k v ≡ (k, v) ∷ found at ks
  insert_below at k v [] all = refl
  insert_below at k v (x ∷ xs) all = by (insert_below at k v xs all.1) (at x) refl
    where
      by : insert_entry name_order (found at xs) k v ≡ (k, v) ∷ found at xs → (o : Option A) → at x ≡ o → insert_entry name_order (cons_option (option_map (λ a. (x, a)) o) (found at xs)) k v ≡ (k, v) ∷ cons_option (option_map (λ a. (x, a)) o) (found at xs)
      by rest None is = rest
      by rest (Some a) is = ap (λ o. match_ordering o ((k, v) ∷ (x, a) ∷ found at xs) ((x, v) ∷ found at xs) ((x, a) ∷ insert_entry name_order (found at xs) k v)) all.0

  -- taking a name out changes nothing where it isn't among them
  remove_apart : (at : List ℕ → Option A) (k : List ℕ) (ks : List (List ℕ)) → AllByRecursion (λ y. bytes_eq k y ≡ false) ks → remove_entry (bytes_eq k) (found at ks) ≡ found at ks
  remove_apart at k [] all = refl
  remove_apart at k (x ∷ xs) all = by (remove_apart at k xs all.1) (at x)
    where
      by : remove_entry (bytes_eq k) (found at xs) ≡ found at xs → (o : Option A) → remove_entry (bytes_eq k) (cons_option (option_map (λ a. (x, a)) o) (found at xs)) ≡ cons_option (option_map (λ a. (x, a)) o) (found at xs)
      by rest None = rest
      by rest (Some a) = ap (λ b. cond b (found at xs) ((x, a) ∷ remove_entry (bytes_eq k) (found at xs))) all.0 ∙ ap (λ more. (x, a) ∷ more) rest

  -- one name has something new
  pub found_put : (at at2 : List ℕ → Option A) (k : List ℕ) (v : A) (ks : List (List ℕ)) → IsStrictlySortedBy name_order ks → at2 k ≡ Some v → ((q : List ℕ) → bytes_eq k q ≡ false → at2 q ≡ at q)
      → insert_entry name_order (found at ks) k v ≡ found at2 (insert_key name_order ks k)
  found_put at at2 k v [] sorted is same = sym (found_some at2 k [] v is)
  found_put at at2 k v (x ∷ xs) sorted is same = by (found_put at at2 k v xs (sorted_tail name_order x xs sorted) is same) (name_order k x) refl (at x) refl
    where
      by : insert_entry name_order (found at xs) k v ≡ found at2 (insert_key name_order xs k) → (o : Ordering) → name_order k x ≡ o → (here : Option A) → at x ≡ here
          → insert_entry name_order (cons_option (option_map (λ a. (x, a)) here) (found at xs)) k v ≡ found at2 (match_ordering o (k ∷ x ∷ xs) (x ∷ xs) (x ∷ insert_key name_order xs k))
      by rest Less less None none =
          insert_below at k v xs (below_all k x xs less sorted).1
          ∙ ap (λ more. (k, v) ∷ more) (sym (found_none at x xs none) ∙ sym (found_apart at at2 k (x ∷ xs) same (all_apart k (x ∷ xs) (below_all k x xs less sorted))))
          ∙ sym (found_some at2 k (x ∷ xs) v is)
      by rest Less less (Some a) some =
          ap (λ o. match_ordering o ((k, v) ∷ (x, a) ∷ found at xs) ((x, v) ∷ found at xs) ((x, a) ∷ insert_entry name_order (found at xs) k v)) less
          ∙ ap (λ more. (k, v) ∷ more) (sym (found_some at x xs a some) ∙ sym (found_apart at at2 k (x ∷ xs) same (all_apart k (x ∷ xs) (below_all k x xs less sorted))))
          ∙ sym (found_some at2 k (x ∷ xs) v is)
      by rest Equal equal None none =
          insert_below at k v xs (subst (λ n. AllByRecursion (λ y. name_order n y ≡ Less) xs) (sym (equal_name k x equal)) (sorted_head name_order x xs sorted))
          ∙ ap (λ n. (n, v) ∷ found at xs) (equal_name k x equal)
          ∙ ap (λ more. (x, v) ∷ more) (sym (found_apart at at2 k xs same (all_apart k xs (subst (λ n. AllByRecursion (λ y. name_order n y ≡ Less) xs) (sym (equal_name k x equal)) (sorted_head name_order x xs sorted)))))
          ∙ sym (found_some at2 x xs v (ap at2 (sym (equal_name k x equal)) ∙ is))
      by rest Equal equal (Some a) some =
          ap (λ o. match_ordering o ((k, v) ∷ (x, a) ∷ found at xs) ((x, v) ∷ found at xs) ((x, a) ∷ insert_entry name_order (found at xs) k v)) equal
          ∙ ap (λ more. (x, v) ∷ more) (sym (found_apart at at2 k xs same (all_apart k xs (subst (λ n. AllByRecursion (λ y. name_order n y ≡ Less) xs) (sym (equal_name k x equal)) (sorted_head name_order x xs sorted)))))
          ∙ sym (found_some at2 x xs v (ap at2 (sym (equal_name k x equal)) ∙ is))
      by rest Greater greater None none =
          rest ∙ sym (found_none at2 x (insert_key name_order xs k) (same x (apart_by_order k x Greater greater refl) ∙ none))
      by rest Greater greater (Some a) some =
          ap (λ o. match_ordering o ((k, v) ∷ (x, a) ∷ found at xs) ((x, v) ∷ found at xs) ((x, a) ∷ insert_entry name_order (found at xs) k v)) greater
          ∙ ap (λ more. (x, a) ∷ more) rest
          ∙ sym (found_some at2 x (insert_key name_order xs k) a (same x (apart_by_order k x Greater greater refl) ∙ some))

  -- one name has nothing any more
  pub found_dropped : (at at2 : List ℕ → Option A) (k : List ℕ) (ks : List (List ℕ)) → IsStrictlySortedBy name_order ks → at2 k ≡ None → ((q : List ℕ) → bytes_eq k q ≡ false → at2 q ≡ at q)
      → remove_entry (bytes_eq k) (found at ks) ≡ found at2 (insert_key name_order ks k)
  found_dropped at at2 k [] sorted is same = sym (found_none at2 k [] is)
  found_dropped at at2 k (x ∷ xs) sorted is same = by (found_dropped at at2 k xs (sorted_tail name_order x xs sorted) is same) (name_order k x) refl (at x) refl
    where
      by : remove_entry (bytes_eq k) (found at xs) ≡ found at2 (insert_key name_order xs k) → (o : Ordering) → name_order k x ≡ o → (here : Option A) → at x ≡ here
          → remove_entry (bytes_eq k) (cons_option (option_map (λ a. (x, a)) here) (found at xs)) ≡ found at2 (match_ordering o (k ∷ x ∷ xs) (x ∷ xs) (x ∷ insert_key name_order xs k))
      by rest Less less here has =
          ap (λ (o : Option A). remove_entry (bytes_eq k) (cons_option (option_map (λ a. (x, a)) o) (found at xs))) (sym has)
          ∙ remove_apart at k (x ∷ xs) (all_apart k (x ∷ xs) (below_all k x xs less sorted))
          ∙ sym (found_apart at at2 k (x ∷ xs) same (all_apart k (x ∷ xs) (below_all k x xs less sorted)))
          ∙ sym (found_none at2 k (x ∷ xs) is)
      by rest Equal equal None none =
          remove_apart at k xs (all_apart k xs (subst (λ n. AllByRecursion (λ y. name_order n y ≡ Less) xs) (sym (equal_name k x equal)) (sorted_head name_order x xs sorted)))
          ∙ sym (found_apart at at2 k xs same (all_apart k xs (subst (λ n. AllByRecursion (λ y. name_order n y ≡ Less) xs) (sym (equal_name k x equal)) (sorted_head name_order x xs sorted))))
          ∙ sym (found_none at2 x xs (ap at2 (sym (equal_name k x equal)) ∙ is))
      by rest Equal equal (Some a) some =
          ap (λ b. cond b (found at xs) ((x, a) ∷ remove_entry (bytes_eq k) (found at xs))) (subst (λ n. bytes_eq k n ≡ true) (equal_name k x equal) (same_self k))
          ∙ sym (found_apart at at2 k xs same (all_apart k xs (subst (λ n. AllByRecursion (λ y. name_order n y ≡ Less) xs) (sym (equal_name k x equal)) (sorted_head name_order x xs sorted))))
          ∙ sym (found_none at2 x xs (ap at2 (sym (equal_name k x equal)) ∙ is))
      by rest Greater greater None none =
          rest ∙ sym (found_none at2 x (insert_key name_order xs k) (same x (apart_by_order k x Greater greater refl) ∙ none))
      by rest Greater greater (Some a) some =
          ap (λ b. cond b (found at xs) ((x, a) ∷ remove_entry (bytes_eq k) (found at xs))) (apart_by_order k x Greater greater refl)
          ∙ ap (λ more. (x, a) ∷ more) rest
          ∙ sym (found_some at2 x (insert_key name_order xs k) a (same x (apart_by_order k x Greater greater refl) ∙ some))

  -- a look-up among names finds what the name has
  pub lookup_found : (at : List ℕ → Option A) (k : List ℕ) (ks : List (List ℕ)) → lookup (bytes_eq k) (found at ks) ≡ cond (list_any (bytes_eq k) ks) (at k) None
  lookup_found at k [] = refl
  lookup_found at k (x ∷ xs) = by (lookup_found at k xs) (at x) refl (bytes_eq k x) refl
    where
      either : (b : Bool) (o : Option A) → cond b o o ≡ o
      either true o = refl
      either false o = refl

      by : lookup (bytes_eq k) (found at xs) ≡ cond (list_any (bytes_eq k) xs) (at k) None → (here : Option A) → at x ≡ here → (b : Bool) → bytes_eq k x ≡ b
          → lookup (bytes_eq k) (cons_option (option_map (λ a. (x, a)) here) (found at xs)) ≡ cond (b || list_any (bytes_eq k) xs) (at k) None
      by rest None none true is =
          rest ∙ ap (λ o. cond (list_any (bytes_eq k) xs) o None) (ap at (same_name k x is) ∙ none) ∙ either (list_any (bytes_eq k) xs) None ∙ sym (ap at (same_name k x is) ∙ none)
      by rest None none false is = rest
      by rest (Some a) some true is =
          ap (λ b. cond b (Some a) (lookup (bytes_eq k) (found at xs))) is ∙ sym (ap at (same_name k x is) ∙ some)
      by rest (Some a) some false is =
          ap (λ b. cond b (Some a) (lookup (bytes_eq k) (found at xs))) is ∙ rest

  -- what is found under the names of some entries is those entries
  pub found_again : (es : List (List ℕ × A)) → IsStrictlySortedBy name_order (keys_of es) → found (λ name. lookup (bytes_eq name) es) (keys_of es) ≡ es
  found_again [] sorted = refl
  found_again (e ∷ es) sorted =
      found_some (λ name. lookup (bytes_eq name) (e ∷ es)) e.0 (keys_of es) e.1 (ap (λ b. cond b (Some e.1) (lookup (bytes_eq e.0) es)) (same_self e.0))
      ∙ ap (λ rest. e ∷ rest)
      (found_apart (λ name. lookup (bytes_eq name) es) (λ name. lookup (bytes_eq name) (e ∷ es)) e.0 (keys_of es)
      (λ q apart. ap (λ b. cond b (Some e.1) (lookup (bytes_eq q) es)) (apart_turned e.0 q apart))
      (all_apart e.0 (keys_of es) (sorted_head name_order e.0 (keys_of es) sorted))
      ∙ found_again es (sorted_tail name_order e.0 (keys_of es) sorted))
