-- On texts in ascending order, each once.
use Rattle.std.proofs.Common.{◌≡◌, ℕ, suc, ◌+◌, ◌<◌, true, ◌&&◌, List, [], ◌∷◌, ◌++◌, length, drop, get_or, refl, sym, ◌∙◌, ap, add-one, drop-cons, append-nil, append_assoc}
use Rattle.std.specs.Borrow.{Bor}
use Rattle.std.specs.declared.cmp.Ordering.{Ordering}
use Rattle.std.specs.declared.cmp.Ordering.TheVariants.{Less, Equal, Greater}
use Rattle.std.specs.Ordering.{match_ordering, nat_cmp, is_lt, ordering_reverse}
use Rattle.std.specs.Cmp.Lexicographic.{slice_cmp, nat_list_cmp_total}
use Rattle.std.specs.List.{list_all, AllByRecursion}
use Rattle.std.specs.List.Sorted.{IsStrictlySortedBy}
use Rattle.std.specs.Str.{bytes_eq}
use Rattle.std.specs.BTreeSet.{insert_key}
use Rattle.std.proofs.lemmas.Bool.{and_parts}
use Rattle.std.proofs.lemmas.Map.Lookups.{exact_bytes}
use Rattle.mcs_reader.specs.Bytes.{bytes_of_each}
use Rattle.mcs_reader.specs.Category.{is_category}
use Rattle.holddata.specs.Categories.{ascends, are_categories, with_each, in_order, IsInOrder}
use Rattle.holddata.proofs.InsertFacts.{all_below, any_puts, every_puts, sorted_puts}

-- a slice put among others, and their bytes
pub bytes_inserted : (keys : List (Bor (List ℕ))) (key : Bor (List ℕ)) → bytes_of_each (insert_key (λ x y. slice_cmp nat_cmp x.now y.now) keys key) ≡ insert_key (slice_cmp nat_cmp) (bytes_of_each keys) key.now
bytes_inserted [] key = refl
bytes_inserted (x ∷ xs) key = by (bytes_inserted xs key) (slice_cmp nat_cmp key.now x.now)
  where
    by : bytes_of_each (insert_key (λ a b. slice_cmp nat_cmp a.now b.now) xs key) ≡ insert_key (slice_cmp nat_cmp) (bytes_of_each xs) key.now → (o : Ordering) → bytes_of_each (match_ordering o (key ∷ x ∷ xs) (x ∷ xs) (x ∷ insert_key (λ a b. slice_cmp nat_cmp a.now b.now) xs key)) ≡ match_ordering o (key.now ∷ x.now ∷ bytes_of_each xs) (x.now ∷ bytes_of_each xs) (x.now ∷ insert_key (slice_cmp nat_cmp) (bytes_of_each xs) key.now)
    by rest Less = refl
    by rest Equal = refl
    by rest Greater = ap (λ ks. x.now ∷ ks) rest

ascending : (texts : List (List ℕ)) → IsStrictlySortedBy (slice_cmp nat_cmp) texts → ascends texts ≡ true
unfolding IsStrictlySortedBy
ascending [] h = refl
ascending (x ∷ []) h = refl
ascending (x ∷ y ∷ rest) h = ap (λ o. is_lt o && ascends (y ∷ rest)) h.0.0 ∙ ascending (y ∷ rest) h.1

none_sorted : IsStrictlySortedBy (slice_cmp nat_cmp) []
unfolding IsStrictlySortedBy
none_sorted = tt

in_order_ascends : (texts : List (List ℕ)) → ascends (in_order texts) ≡ true
in_order_ascends texts = ascending (in_order texts) (sorted_puts (slice_cmp nat_cmp) nat_list_cmp_total [] texts none_sorted)

-- one more value of an operand
pub value_added : (keys more : List (Bor (List ℕ))) (values : List (Bor (List ℕ))) (i : ℕ) (d : Bor (List ℕ)) → i < length values → more ≡ insert_key (λ x y. slice_cmp nat_cmp x.now y.now) keys (get_or values i d)
    → with_each (bytes_of_each more) (bytes_of_each (drop (i + 1) values)) ≡ with_each (bytes_of_each keys) (bytes_of_each (drop i values))
value_added keys more values i d below is =
    ap (λ n. with_each (bytes_of_each more) (bytes_of_each (drop n values))) (add-one i)
    ∙ ap (λ ks. with_each (bytes_of_each ks) (bytes_of_each (drop (suc i) values))) is
    ∙ ap (λ ks. with_each ks (bytes_of_each (drop (suc i) values))) (bytes_inserted keys (get_or values i d))
    ∙ sym (ap (λ vs. with_each (bytes_of_each keys) (bytes_of_each vs)) (drop-cons values i d below))

-- texts in order are what they should be
pub in_order_is : (texts : List (List ℕ)) → IsInOrder texts (in_order texts)
in_order_is texts = record { ascending = in_order_ascends texts; same = λ text. any_puts (slice_cmp nat_cmp) exact_bytes (bytes_eq text) [] texts }

pub in_order_allowed : (texts : List (List ℕ)) → list_all is_category texts ≡ true → are_categories (in_order texts) ≡ true
in_order_allowed texts h =
    ap (λ b. b && ascends (in_order texts)) (every_puts (slice_cmp nat_cmp) is_category [] texts refl h) ∙ in_order_ascends texts

-- ---- texts that ascend are in order already

pub less_by : (o : Ordering) → is_lt o ≡ true → o ≡ Less
less_by Less h = refl
less_by Equal h = cc
less_by Greater h = cc

tail_ascends : (x : List ℕ) (xs : List (List ℕ)) → ascends (x ∷ xs) ≡ true → ascends xs ≡ true
tail_ascends x [] h = refl
tail_ascends x (y ∷ xs) h = (and_parts (is_lt (slice_cmp nat_cmp x y)) (ascends (y ∷ xs)) h).1

below_rest : (x : List ℕ) (xs : List (List ℕ)) → ascends (x ∷ xs) ≡ true → AllByRecursion (λ y. slice_cmp nat_cmp x y ≡ Less) xs
below_rest x [] h = tt
below_rest x (y ∷ xs) h =
    let parts = and_parts (is_lt (slice_cmp nat_cmp x y)) (ascends (y ∷ xs)) h in
    let less = less_by (slice_cmp nat_cmp x y) parts.0 in
    (less, all_below nat_list_cmp_total x y xs less (below_rest y xs parts.1))

at_front : (P : List ℕ → Type 0) (xs : List (List ℕ)) (y : List ℕ) (ys : List (List ℕ)) → AllByRecursion P (xs ++ y ∷ ys) → P y
at_front P [] y ys h = h.0
at_front P (x ∷ xs) y ys h = at_front P xs y ys h.1

front_below : (kept : List (List ℕ)) (text : List ℕ) (texts : List (List ℕ)) → ascends (kept ++ text ∷ texts) ≡ true → AllByRecursion (λ k. slice_cmp nat_cmp k text ≡ Less) kept
front_below [] text texts h = tt
front_below (k ∷ kept) text texts h = (
  at_front (λ y. slice_cmp nat_cmp k y ≡ Less) kept text texts (below_rest k (kept ++ text ∷ texts) h),
  front_below kept text texts (tail_ascends k (kept ++ text ∷ texts) h),
)

put_last : (kept : List (List ℕ)) (text : List ℕ) → AllByRecursion (λ k. slice_cmp nat_cmp k text ≡ Less) kept → insert_key (slice_cmp nat_cmp) kept text ≡ kept ++ text ∷ []
put_last [] text h = refl
put_last (k ∷ kept) text h =
    ap (λ o. match_ordering o (text ∷ k ∷ kept) (k ∷ kept) (k ∷ insert_key (slice_cmp nat_cmp) kept text)) (nat_list_cmp_total.antisymm text k ∙ ap ordering_reverse h.0)
    ∙ ap (λ ks. k ∷ ks) (put_last kept text h.1)

each_last : (kept texts : List (List ℕ)) → ascends (kept ++ texts) ≡ true → with_each kept texts ≡ kept ++ texts
each_last kept [] h = sym (append-nil kept)
each_last kept (text ∷ texts) h =
    let on : (kept ++ text ∷ []) ++ texts ≡ kept ++ text ∷ texts = append_assoc kept (text ∷ []) texts in
    ap (λ ks. with_each ks texts) (put_last kept text (front_below kept text texts h))
    ∙ each_last (kept ++ text ∷ []) texts (ap ascends on ∙ h)
    ∙ on

pub in_order_already : (texts : List (List ℕ)) → are_categories texts ≡ true → in_order texts ≡ texts
in_order_already texts h = each_last [] texts ((and_parts (list_all is_category texts) (ascends texts) h).1)

pub all_allowed : (texts : List (List ℕ)) → are_categories texts ≡ true → list_all is_category texts ≡ true
all_allowed texts h = (and_parts (list_all is_category texts) (ascends texts) h).0
