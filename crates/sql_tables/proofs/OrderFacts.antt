-- Lists in ascending order of an id in each: they are known by what is found in them.
use Rattle.std.proofs.Common.{◌≡◌, ℕ, Bool, true, false, cond, ◌||◌, List, [], ◌∷◌, refl, sym, ◌∙◌, ap}
use Rattle.std.specs.Prelude.{find, map, option_map, Option, Some, None}
use Rattle.std.specs.BTreeMap.{insert_entry}
use Rattle.std.specs.BTreeSet.{insert_key}
use Rattle.std.specs.List.{AllByRecursion, filter_map, list_any}
use Rattle.std.specs.List.Sorted.{IsStrictlySortedBy}
use Rattle.std.specs.Map.{lookup, remove_entry}
use Rattle.std.specs.Ordering.{match_ordering}
use Rattle.std.specs.declared.cmp.Ordering.{Ordering}
use Rattle.std.specs.declared.cmp.Ordering.TheVariants.{Less, Equal, Greater}
use Rattle.catalogue.specs.Ids.{id_cmp, same_id, Ascend, in_order}
use Rattle.catalogue.proofs.IdFacts.{apart, exact_ids, id_order, in_order_any, in_order_ascends, insert_ascends, itself, one_id, same_back, turned}
use Rattle.holddata.proofs.FoundFacts as found

module _ {X : Type 0} (key : X → List ℕ) where
  abbrev pub with_key : List X → List ℕ → Option X
  with_key xs id = find (λ x. same_id (key x) id) xs

  abbrev pub KeysAscend : List X → Type 0
  KeysAscend xs = Ascend (map key xs)

  none_with : (id : List ℕ) (xs : List X) → AllByRecursion (λ y. id_cmp id y ≡ Less) (map key xs) → with_key xs id ≡ None
  none_with = found.none_found key id_order

  -- two such lists in which each id is found alike are the same
  pub same_by_key : (a b : List X) → KeysAscend a → KeysAscend b → ((id : List ℕ) → with_key a id ≡ with_key b id) → a ≡ b
  same_by_key = found.same_by_key key id_order

-- ---- a list put in order by its key

module _ {X : Type 0} (key : X → List ℕ) (xs : List X) where
  with_own : (ys : List X) (id : List ℕ) (x : X) → with_key key ys id ≡ Some x → key x ≡ id
  with_own = found.found_own key id_order

  none_any : (ys : List X) (id : List ℕ) → list_any (λ k. same_id k id) (map key ys) ≡ false → with_key key ys id ≡ None
  none_any [] id h = refl
  none_any (y ∷ ys) id h = by (same_id (key y) id) (none_any ys id) h
    where
      by : (b : Bool) → (list_any (λ k. same_id k id) (map key ys) ≡ false → with_key key ys id ≡ None) → (b || list_any (λ k. same_id k id) (map key ys)) ≡ false → cond b (Some y) (with_key key ys id) ≡ None
      by true rest h = cc
      by false rest h = rest h

  abbrev pub by_key : List X
  by_key = filter_map (with_key key xs) (in_order (map key xs))

  pub by_key_ascends : KeysAscend key by_key
  by_key_ascends = found.kept_ascend key id_order (with_key key xs) (with_own xs) (in_order (map key xs)) (in_order_ascends (map key xs))

  -- the first with each key is found
  pub by_key_with : (id : List ℕ) → with_key key by_key id ≡ with_key key xs id
  by_key_with id =
      found.kept_found key id_order (with_key key xs) (with_own xs) (in_order (map key xs)) id
      ∙ ap (λ b. cond b (with_key key xs id) None) (in_order_any (λ k. same_id k id) (map key xs))
      ∙ by (list_any (λ k. same_id k id) (map key xs)) refl
    where
      by : (b : Bool) → list_any (λ k. same_id k id) (map key xs) ≡ b → cond b (with_key key xs id) None ≡ with_key key xs id
      by true h = refl
      by false h = sym (none_any xs id h)

  -- and what ascends stays as it is
  pub by_key_same : KeysAscend key xs → by_key ≡ xs
  by_key_same ascend = same_by_key key by_key xs by_key_ascends ascend by_key_with

-- ---- entries under ids

abbrev pub name_in : {X : Type 0} → List ℕ × X → List ℕ
name_in entry = entry.0

module _ {X : Type 0} where
  -- an entry is put
  pub put_with : (es : List (List ℕ × X)) (k : List ℕ) (v : X) (id : List ℕ)
      → with_key name_in (insert_entry id_cmp es k v) id ≡ cond (same_id k id) (Some (k, v)) (with_key name_in es id)
  put_with [] k v id = refl
  put_with (e ∷ es) k v id = by (id_cmp k e.0) refl (put_with es k v id)
    where
      rest : Option (List ℕ × X)
      rest = with_key name_in es id

      swap : (a b : Bool) → (same_id k id ≡ true → same_id e.0 id ≡ true → ⊥) → same_id k id ≡ a → same_id e.0 id ≡ b
          → cond b (Some e) (cond a (Some (k, v)) rest) ≡ cond a (Some (k, v)) (cond b (Some e) rest)
      swap true true never at is = absurd (never at is)
      swap true false never at is = refl
      swap false b never at is = refl

      equal : k ≡ e.0 → (a : Bool) → cond a (Some (k, v)) rest ≡ cond a (Some (k, v)) (cond a (Some e) rest)
      equal same true = refl
      equal same false = refl

      by : (o : Ordering) → id_cmp k e.0 ≡ o → with_key name_in (insert_entry id_cmp es k v) id ≡ cond (same_id k id) (Some (k, v)) rest
          → with_key name_in (match_ordering o ((k, v) ∷ e ∷ es) ((e.0, v) ∷ es) (e ∷ insert_entry id_cmp es k v)) id
          ≡ cond (same_id k id) (Some (k, v)) (cond (same_id e.0 id) (Some e) rest)
      by Less is later = refl
      by Equal is later =
          let same : k ≡ e.0 = exact_ids k e.0 is in
          ap (λ i. cond (same_id i id) (Some (i, v)) rest) (sym same)
          ∙ equal same (same_id k id)
          ∙ ap (λ i. cond (same_id k id) (Some (k, v)) (cond (same_id i id) (Some e) rest)) same
      by Greater is later =
          ap (cond (same_id e.0 id) (Some e)) later
          ∙ swap (same_id k id) (same_id e.0 id) (λ at there. let same : k ≡ e.0 = one_id k id at ∙ sym (one_id e.0 id there) in
          let f : same_id e.0 k ≡ true = ap (same_id e.0) same ∙ itself e.0 in
          let g : same_id e.0 k ≡ false = apart e.0 k (turned k e.0 is) in cc) refl refl

  -- an entry goes
  pub gone_with : (es : List (List ℕ × X)) (k id : List ℕ) → Ascend (map name_in es)
      → with_key name_in (remove_entry (same_id k) es) id ≡ cond (same_id k id) None (with_key name_in es id)
  unfolding IsStrictlySortedBy
  gone_with [] k id h = none (same_id k id)
    where
      none : (b : Bool) → ◌≡◌ {A = Option (List ℕ × X)} None (cond b None None)
      none true = refl
      none false = refl
  gone_with (e ∷ es) k id h = by (same_id k e.0) (same_id k id) refl refl (gone_with es k id h.1)
    where
      rest : Option (List ℕ × X)
      rest = with_key name_in es id

      kept : (b : Bool) → same_id e.0 id ≡ b → (same_id e.0 id ≡ true → ⊥) → rest ≡ cond b (Some e) rest
      kept true at never = absurd (never at)
      kept false at never = refl

      by : (here there : Bool) → same_id k e.0 ≡ here → same_id k id ≡ there → with_key name_in (remove_entry (same_id k) es) id ≡ cond (same_id k id) None rest
          → with_key name_in (cond here es (e ∷ remove_entry (same_id k) es)) id ≡ cond there None (cond (same_id e.0 id) (Some e) rest)
      by true true is at later =
          let same : e.0 ≡ id = sym (one_id k e.0 is) ∙ one_id k id at in
          ap (with_key name_in es) (sym same) ∙ none_with name_in e.0 es h.0
      by true false is at later =
          kept (same_id e.0 id) refl (λ e2. let f : same_id k id ≡ true = ap (λ i. same_id i id) (one_id k e.0 is) ∙ e2 in cc)
      by false true is at later =
          ap (cond (same_id e.0 id) (Some e)) (later ∙ ap (λ b. cond b None rest) at)
          ∙ nothing (same_id e.0 id) (λ e2. let f : same_id k e.0 ≡ true = ap (same_id k) (one_id e.0 id e2) ∙ at in cc)
        where
          nothing : (b : Bool) → (same_id e.0 id ≡ true → ⊥) → cond (same_id e.0 id) (Some e) None ≡ None
          nothing b never = off (same_id e.0 id) refl
            where
              off : (c : Bool) → same_id e.0 id ≡ c → cond c (Some e) None ≡ None
              off true on = absurd (never on)
              off false on = refl
      by false false is at later = ap (cond (same_id e.0 id) (Some e)) (later ∙ ap (λ b. cond b None rest) at)

  -- an entry for each of some ids
  pub each_with : (f : List ℕ → X) (ks : List (List ℕ)) (id : List ℕ)
      → with_key name_in (map (λ k. (k, f k)) ks) id ≡ cond (list_any (λ k. same_id k id) ks) (Some (id, f id)) None
  each_with f [] id = refl
  each_with f (k ∷ ks) id = by (same_id k id) refl (each_with f ks id)
    where
      by : (b : Bool) → same_id k id ≡ b → with_key name_in (map (λ k. (k, f k)) ks) id ≡ cond (list_any (λ k. same_id k id) ks) (Some (id, f id)) None
          → cond b (Some (k, f k)) (with_key name_in (map (λ k. (k, f k)) ks) id) ≡ cond (b || list_any (λ k. same_id k id) ks) (Some (id, f id)) None
      by true at rest = ap (λ i. Some (i, f i)) (one_id k id at)
      by false at rest = rest

  pub each_name : (f : List ℕ → X) (ks : List (List ℕ)) → map name_in (map (λ k. (k, f k)) ks) ≡ ks
  each_name f [] = refl
  each_name f (k ∷ ks) = ap (λ names. k ∷ names) (each_name f ks)

  -- a look-up by name
  pub looked_up : (es : List (List ℕ × X)) (id : List ℕ) → lookup (same_id id) es ≡ option_map (λ e. e.1) (with_key name_in es id)
  looked_up [] id = refl
  looked_up (e ∷ es) id =
      ap (λ b. cond b (Some e.1) (lookup (same_id id) es)) (same_back id e.0) ∙ ap (cond (same_id e.0 id) (Some e.1)) (looked_up es id) ∙ by (same_id e.0 id)
    where
      by : (b : Bool) → cond b (Some e.1) (option_map (λ e. e.1) (with_key name_in es id)) ≡ option_map (λ e. e.1) (cond b (Some e) (with_key name_in es id))
      by true = refl
      by false = refl

  -- entries that are put or go leave the names in order
  names_put : (es : List (List ℕ × X)) (k : List ℕ) (v : X) → map name_in (insert_entry id_cmp es k v) ≡ insert_key id_cmp (map name_in es) k
  names_put [] k v = refl
  names_put (e ∷ es) k v = by (id_cmp k e.0) (names_put es k v)
    where
      by : (o : Ordering) → map name_in (insert_entry id_cmp es k v) ≡ insert_key id_cmp (map name_in es) k
          → map name_in (match_ordering o ((k, v) ∷ e ∷ es) ((e.0, v) ∷ es) (e ∷ insert_entry id_cmp es k v))
          ≡ match_ordering o (k ∷ e.0 ∷ map name_in es) (e.0 ∷ map name_in es) (e.0 ∷ insert_key id_cmp (map name_in es) k)
      by Less rest = refl
      by Equal rest = refl
      by Greater rest = ap (λ names. e.0 ∷ names) rest

  pub put_ascends : (es : List (List ℕ × X)) (k : List ℕ) (v : X) → Ascend (map name_in es) → Ascend (map name_in (insert_entry id_cmp es k v))
  put_ascends es k v h = rw (names_put es k v) (insert_ascends (map name_in es) k h)

  all_gone : (P : List ℕ → Type 0) (es : List (List ℕ × X)) (k : List ℕ) → AllByRecursion P (map name_in es) → AllByRecursion P (map name_in (remove_entry (same_id k) es))
  all_gone P [] k h = tt
  all_gone P (e ∷ es) k h = by (same_id k e.0) (all_gone P es k h.1)
    where
      by : (b : Bool) → AllByRecursion P (map name_in (remove_entry (same_id k) es)) → AllByRecursion P (map name_in (cond b es (e ∷ remove_entry (same_id k) es)))
      by true rest = h.1
      by false rest = (h.0, rest)

  pub gone_ascends : (es : List (List ℕ × X)) (k : List ℕ) → Ascend (map name_in es) → Ascend (map name_in (remove_entry (same_id k) es))
  unfolding IsStrictlySortedBy
  gone_ascends [] k h = tt
  gone_ascends (e ∷ es) k h = by (same_id k e.0) (gone_ascends es k h.1)
    where
      by : (b : Bool) → Ascend (map name_in (remove_entry (same_id k) es)) → Ascend (map name_in (cond b es (e ∷ remove_entry (same_id k) es)))
      by true rest = h.1
      by false rest = (all_gone (λ y. id_cmp e.0 y ≡ Less) es k h.0, rest)

-- ---- ids that ascend are in order already

pub ids_found : (ks : List (List ℕ)) (id : List ℕ) → with_key (λ k. k) ks id ≡ cond (list_any (λ k. same_id k id) ks) (Some id) None
ids_found [] id = refl
ids_found (k ∷ ks) id = by (same_id k id) refl (ids_found ks id)
  where
    by : (b : Bool) → same_id k id ≡ b → with_key (λ x. x) ks id ≡ cond (list_any (λ x. same_id x id) ks) (Some id) None
        → cond b (Some k) (with_key (λ x. x) ks id) ≡ cond (b || list_any (λ x. same_id x id) ks) (Some id) None
    by true at rest = ap Some (one_id k id at)
    by false at rest = rest

pub map_same : (ks : List (List ℕ)) → map (λ k. k) ks ≡ ks
map_same [] = refl
map_same (k ∷ ks) = ap (λ rest. k ∷ rest) (map_same ks)

pub in_order_same : (ks : List (List ℕ)) → Ascend ks → in_order ks ≡ ks
in_order_same ks h =
    same_by_key (λ k. k) (in_order ks) ks (rw (map_same (in_order ks)) (in_order_ascends ks)) (rw (map_same ks) h) (λ id.
    ids_found (in_order ks) id ∙ ap (λ b. cond b (Some id) None) (in_order_any (λ k. same_id k id) ks) ∙ sym (ids_found ks id))
