-- The entries of a cache: what stands first after a look-up, and what stays where the last one is taken in turn.
use Rattle.std.proofs.Common.{◌≡◌, ◌∙◌, ◌+◌, ◌-◌, ◌<◌, ◌≤◌, ℕ, Bool, true, false, cond, List, [], ◌∷◌, ◌++◌, Contains, length, take, slice_get, is_some, option_map, Option, Some, None, refl, sym, ap, subst, arith, append_assoc, append-nil, length-append}
use Rattle.std.specs.Cmp.{IsEquivalence}
use Rattle.std.specs.List.{AllByRecursion, IsDistinct, filter}
use Rattle.std.specs.Option.{option_map_or}
use Rattle.std.specs.Map.{keys_of, lookup, lookup_entry, remove_entry}
use Rattle.std.proofs.lemmas.Map.Keys.{IsDistinct-head, IsDistinct-tail}
use Rattle.lru.specs.LruCache.{LruCache, promoted, put_entries}
use Rattle.lru.proofs.CallerLemmas.{Contains-lookup_entry}
use Rattle.lru.proofs.Splits.{Contains-head}
use Rattle.lru.proofs.Pairs.{cut_end, last_of_push, lookup-lookup_entry}
use Rattle.lru.specs.LruCache.{last_entry}

module _ {K V : Type 0} (eq : K → K → Bool) where
  -- where a key has no entry, what is put stands first, and the last entry of a full cache is gone
  put_absent : (c : LruCache K V) (k : K) (v : V) (o : Option (K × V)) → is_some (option_map (λ e. e.1) o) ≡ false
      → option_map_or (λ e. (e.0, v) ∷ remove_entry (eq k) c.entries) o ((k, v) ∷ take (c.cap - 1) c.entries) ≡ (k, v) ∷ take (c.cap - 1) c.entries
  put_absent c k v None absent = refl
  put_absent c k v (Some e) absent = absurd cc

  pub put_first : (c : LruCache K V) (k : K) (v : V) → is_some (lookup (eq k) c.entries) ≡ false → put_entries eq c k v ≡ (k, v) ∷ take (c.cap - 1) c.entries
  put_first c k v absent = put_absent c k v (lookup_entry (eq k) c.entries) (ap is_some (lookup-lookup_entry (eq k) c.entries) ∙ absent)

  -- an entry whose key is one with another
  pub record IsFoundFirst (k : K) (entries after : List (K × V)) : Type 0 where
    pub entry : K × V
    pub member : Contains entries entry
    pub same : eq k entry.0 ≡ true
    pub first : slice_get after 0 ≡ Some entry

  found_first : (k : K) (entries : List (K × V)) (o : Option (K × V)) → lookup_entry (eq k) entries ≡ o → is_some (option_map (λ e. e.1) o) ≡ true
      → IsFoundFirst k entries (option_map_or (λ e. e ∷ remove_entry (eq k) entries) o entries)
  found_first k entries None is there = absurd cc
  found_first k entries (Some e) is there =
      let found = Contains-lookup_entry (eq k) entries e is in
      record { entry = e; member = found.0; same = found.1; first = refl }

  -- where a key has an entry, that one stands first once it is promoted
  pub promoted_first : (k : K) (entries : List (K × V)) → is_some (lookup (eq k) entries) ≡ true → IsFoundFirst k entries (promoted (eq k) entries)
  promoted_first k entries there = found_first k entries (lookup_entry (eq k) entries) refl (ap is_some (lookup-lookup_entry (eq k) entries) ∙ there)

  differs_last : (k : K) (others : List (K × V)) (last : K × V) → AllByRecursion (λ y. eq k y ≡ false) (keys_of (others ++ last ∷ [])) → eq k last.0 ≡ false
  differs_last k [] last all = all.0
  differs_last k (other ∷ others) last all = differs_last k others last all.1

  module _ (laws : IsEquivalence eq) where
    record IsAtEnd (others : List (K × V)) (last : K × V) : Type 0 where
      pub entry : lookup_entry (eq last.0) (others ++ last ∷ []) ≡ Some last
      pub removed : remove_entry (eq last.0) (others ++ last ∷ []) ≡ others

    at_end : (others : List (K × V)) (last : K × V) → IsDistinct eq (keys_of (others ++ last ∷ [])) → IsAtEnd others last
    at_end [] last distinct = let is = laws.refl last.0 in record { entry = rw is; removed = rw is }
    at_end (other ∷ others) last distinct =
        let rest = at_end others last (IsDistinct-tail eq other.0 (keys_of (others ++ last ∷ [])) distinct) in
        let differs : eq last.0 other.0 ≡ false =
        laws.symm last.0 other.0 ∙ differs_last other.0 others last (IsDistinct-head eq other.0 (keys_of (others ++ last ∷ [])) distinct) in
        record { entry = rw differs rest.entry; removed = rw differs (ap (λ l. other ∷ l) rest.removed) }

    -- the last entry stands first once it is promoted
    pub last_promoted : (others : List (K × V)) (last : K × V) → IsDistinct eq (keys_of (others ++ last ∷ [])) → promoted (eq last.0) (others ++ last ∷ []) ≡ last ∷ others
    last_promoted others last distinct = let is = at_end others last distinct in rw (is.entry, is.removed)

  -- ---- one turn at the last entry

  pub is_last : (entries others : List (K × V)) (last : K × V) → entries ≡ others ++ last ∷ [] → last_entry entries ≡ Some last
  is_last entries others last are = ap last_entry are ∙ (last_of_push others last).0

  -- taken out where it goes
  pub last_taken : (stays : K × V → Bool) (entries others : List (K × V)) (last : K × V) → entries ≡ others ++ last ∷ [] → stays last ≡ false
      → take (length entries - 1) entries ≡ filter stays (last ∷ []) ++ others
  last_taken stays entries others last are goes =
      ap (λ l. take (length l - 1) l) are ∙ (last_of_push others last).1 ∙ ap (λ b. cond b (last ∷ []) [] ++ others) (sym goes)

  -- put first where it stays
  pub last_put_first : IsEquivalence eq → (stays : K × V → Bool) (entries others : List (K × V)) (last : K × V) (k : K) → entries ≡ others ++ last ∷ [] → stays last ≡ true
      → k ≡ last.0 → IsDistinct eq (keys_of entries) → promoted (eq k) entries ≡ filter stays (last ∷ []) ++ others
  last_put_first laws stays entries others last k are remains is distinct =
      let P : List (K × V) → Type 0 = λ l. IsDistinct eq (keys_of l) in
      ap (λ i. promoted (eq i) entries) is ∙ ap (promoted (eq last.0)) are ∙ last_promoted laws others last (subst P are distinct)
      ∙ ap (λ b. cond b (last ∷ []) [] ++ others) (sym remains)

module _ {A : Type 0} (stays : A → Bool) where
  -- So many of the last entries were looked at: those that stay stand before the others, in their order.
  pub record AreTurned (was now : List A) (turns : ℕ) : Type 0 where
    pub others : List A
    pub turned : List A
    pub are : was ≡ others ++ turned
    pub stand : now ≡ filter stays turned ++ others
    pub count : length turned ≡ turns

  pub none_turned : (was : List A) → AreTurned was was 0
  none_turned was = record { others = was; turned = []; are = sym (append-nil was); stand = refl; count = refl }

  kept_one : (x : A) (xs : List A) → filter stays (x ∷ []) ++ filter stays xs ≡ filter stays (x ∷ xs)
  kept_one x xs = elim (stays x) as (λ b. cond b (x ∷ []) [] ++ filter stays xs ≡ cond b (x ∷ filter stays xs) (filter stays xs)) [
    | true ↦ refl
    | false ↦ refl
  ]

  -- the entries before the last one, which stand behind those that stay
  pub record IsNextTurn (was now : List A) (turns : ℕ) : Type 0 where
    pub before : List A
    pub last : A
    pub is : now ≡ before ++ last ∷ []
    pub on : (after : List A) → after ≡ filter stays (last ∷ []) ++ before → AreTurned was after (turns + 1)

  pub next_turn : (was now : List A) (turns : ℕ) → AreTurned was now turns → turns < length was → IsNextTurn was now turns
  next_turn was now turns so_far more =
      let short : 0 < length so_far.others = omega (arith, ap length so_far.are, length-append so_far.others so_far.turned, so_far.count, more) in
      let cut = cut_end so_far.others short in
      let kept = filter stays so_far.turned in
      record {
        before = kept ++ cut.0;
        last = cut.1;
        is = so_far.stand ∙ ap (λ l. kept ++ l) cut.2 ∙ sym (append_assoc kept cut.0 (cut.1 ∷ []));
        on = λ after stands. record {
          others = cut.0;
          turned = cut.1 ∷ so_far.turned;
          are = so_far.are ∙ ap (λ l. l ++ so_far.turned) cut.2 ∙ append_assoc cut.0 (cut.1 ∷ []) so_far.turned;
          stand = stands ∙ sym (append_assoc (filter stays (cut.1 ∷ [])) kept cut.0) ∙ ap (λ l. l ++ cut.0) (kept_one cut.1 so_far.turned);
          count = omega (arith, so_far.count);
        };
      }

  none_left : (others turned : List A) → length (others ++ turned) ≡ length turned → others ≡ []
  none_left [] turned same = refl
  none_left (x ∷ others) turned same = absurd (omega (arith, same, length-append (x ∷ others) turned))

  pub all_turned : (was now : List A) (turns : ℕ) → AreTurned was now turns → length was ≤ turns → now ≡ filter stays was
  all_turned was now turns so_far over =
      let none : so_far.others ≡ [] = none_left so_far.others so_far.turned (omega (arith, ap length so_far.are, so_far.count, length-append so_far.others so_far.turned, over)) in
      so_far.stand ∙ ap (λ l. filter stays so_far.turned ++ l) none ∙ append-nil (filter stays so_far.turned) ∙ sym (ap (filter stays) (so_far.are ∙ ap (λ l. l ++ so_far.turned) none))

-- what stands first stands there
pub first_inside : {A : Type 0} (xs : List A) (x : A) → slice_get xs 0 ≡ Some x → Contains xs x
first_inside [] x is = absurd cc
first_inside (y ∷ ys) x is =
    let same : y ≡ x = cc in
    subst (λ z. Contains (z ∷ ys) x) (sym same) (Contains-head x ys)

-- one entry has one value
abbrev value_or : {A B : Type 0} → B → Option (A × B) → B
value_or value None = value
value_or value (Some entry) = entry.1

pub same_value : {A B : Type 0} (x y : A × B) → Some x ≡ Some y → x.1 ≡ y.1
same_value x y same = ap (value_or x.1) same
