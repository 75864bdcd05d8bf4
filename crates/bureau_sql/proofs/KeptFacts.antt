-- The values of a cache, where one is used, comes or goes.
use Rattle.std.proofs.Common.{◌≡◌, ◌⊎◌, ℕ, Bool, Err, List, Ok, Option, Result, Some, inl, inr, subst, sym, take}
use Rattle.std.specs.Prelude.{OnErr, OnOk}
use Rattle.std.specs.List.{Contains}
use Rattle.std.specs.Map.{lookup, remove_entry}
use Rattle.lemmas.proofs.ListFacts.{map_from, map_inside}
use Rattle.lru.specs.LruCache.{LruCache, lru_cache, promoted, put_entries}
use Rattle.lru.proofs.CallerLemmas.{Contains-lookup, Contains-promoted, Contains-put_entries, Contains-remove_entry, Contains-take}
use Rattle.bureau_sql.specs.Kept.{values_in}

abbrev value_of : {K V : Type 0} → K × V → V
value_of entry = entry.1

module _ {K V : Type 0} (cache : Option (LruCache K V)) (values : List V) (old : LruCache K V) (are : values_in cache ≡ values) (is : cache ≡ Some old) where
  -- the value of an entry
  value_inside : (entry : K × V) → Contains old.entries entry → Contains values entry.1
  value_inside entry member =
      subst (λ list. Contains list entry.1) are (subst (λ found. Contains (values_in found) entry.1) (sym is) (map_inside value_of old.entries entry member))

  pub peeked : (test : K → Bool) (value : V) → lookup test old.entries ≡ Some value → Contains values value
  peeked test value found = let at = Contains-lookup test old.entries value found in value_inside (at.0, value) at.1

  module _ (new : LruCache K V) where
    fewer : ((entry : K × V) → Contains new.entries entry → Contains old.entries entry) → (one : V) → Contains (values_in (Some new)) one → Contains values one
    fewer each one inside =
        let image = map_from value_of new.entries one inside in
        subst (Contains values) image.is (value_inside image.from (each image.from image.member))

    -- the entries, if they are those of a list
    among : (entries : List (K × V)) (cap : ℕ) → new ≡ lru_cache entries cap → (entry : K × V) → Contains new.entries entry → Contains entries entry
    among entries cap now entry inside = subst (λ (it : LruCache K V). Contains it.entries entry) now inside

    pub used : (test : K → Bool) → new ≡ lru_cache (promoted test old.entries) old.cap → (one : V) → Contains (values_in (Some new)) one → Contains values one
    used test now = fewer (λ entry inside. Contains-promoted test old.entries entry (among (promoted test old.entries) old.cap now entry inside))

    pub popped : (test : K → Bool) → new ≡ lru_cache (remove_entry test old.entries) old.cap → (one : V) → Contains (values_in (Some new)) one → Contains values one
    popped test now = fewer (λ entry inside. Contains-remove_entry test old.entries entry (among (remove_entry test old.entries) old.cap now entry inside))

    pub cut : (n : ℕ) → new ≡ lru_cache (take n old.entries) old.cap → (one : V) → Contains (values_in (Some new)) one → Contains values one
    cut n now = fewer (λ entry inside. Contains-take n old.entries entry (among (take n old.entries) old.cap now entry inside))

    module _ (eq : K → K → Bool) (key : K) (value : V) where
      now_put : new ≡ lru_cache (put_entries eq old key value) old.cap → (one : V) → Contains (values_in (Some new)) one → Contains values one ⊎ (one ≡ value)
      now_put now one inside =
          let image = map_from value_of new.entries one inside in
          elim (Contains-put_entries eq old key value image.from (among (put_entries eq old key value) old.cap now image.from image.member)) [
            | inl earlier ↦ inl (subst (Contains values) image.is (value_inside image.from earlier))
            | inr put ↦ inr (subst (λ it. it ≡ value) image.is put.0)
          ]

      -- it was put, or there was no memory
      pub stored : {Value Fault : Type 0} (result : Result Value Fault) → OnOk result (new ≡ lru_cache (put_entries eq old key value) old.cap) → OnErr result (new ≡ old)
          → (one : V) → Contains (values_in (Some new)) one → Contains values one ⊎ (one ≡ value)
      stored (Ok it) put failed one inside = now_put put one inside
      stored (Err it) put failed one inside = inl (fewer (λ entry inside. subst (λ (it : LruCache K V). Contains it.entries entry) failed inside) one inside)
