-- A listing renewed: what isn't marked is taken over, and what is marked is read anew.
use Rattle.std.proofs.Common.{◌≡◌, ◌∙◌, ◌+◌, ◌<◌, ◌++◌, ℕ, zero, suc, Bool, true, false, cond, List, [], ◌∷◌, drop, filter, get_or, length, map, not, is_some, take, Option, Some, None, refl, sym, ap, subst, inl, inr, arith, append_assoc}
use Rattle.std.specs.List.{Contains}
use Rattle.std.specs.Prelude.{IfNone, IfSome}
use Rattle.std.proofs.Math.Seq.{drop-cons}
use Rattle.std.proofs.lemmas.List.{append-nil, get_or-map, length-map, map-append, take_more}
use Rattle.std.proofs.lemmas.List.Elements.{Contains-append_cases, Contains-append_left, Contains-append_right, filter-append}
use Rattle.std.proofs.lemmas.Map.Views.{Contains-from_any}
use Rattle.std.proofs.lemmas.List.Kept.{IsStrictlySortedBy-filter}
use Rattle.lemmas.proofs.ListFacts.{any_at, kept_from, kept_inside, get_any}
use Rattle.catalogue.specs.Content.{Content, ids_of, record_of}
use Rattle.catalogue.specs.Ids.{Ascend, id_cmp, in_order, same_id}
use Rattle.catalogue.specs.Seen.{SeenLists, seen_in}
use Rattle.catalogue.proofs.IdFacts.{in_order_ascends, in_order_has, itself, one_id}
use Rattle.supersede.specs.Reach.{has}
use Rattle.verdicts.specs.Indices.{id_at, IsAt}
use Rattle.listings.specs.Marks.{IsListingBut, SaysBut, catalogued_among, found_among, marked, sight_seen, unmarked}
use Rattle.listings.specs.Sights.{IsListing, ListingLists, Sight, sight_of, unseen}
use Rattle.verdicts.proofs.IndexFacts.{indexed_inside}
use Rattle.listings.proofs.MarkFacts.{AreListed, apart_from, are_listed}
use Rattle.verdicts.proofs.OrderFacts.{ascending_same}
use Rattle.listings.proofs.WayFacts.{listed_record, record_listed}

filtered_ascend : (test : List ℕ → Bool) (ids : List (List ℕ)) → Ascend ids → Ascend (filter test ids)
filtered_ascend test ids ascend = IsStrictlySortedBy-filter id_cmp test ids ascend

module _ (content : Content) (marks : List (List ℕ)) (listing : ListingLists) (ascend : Ascend marks) (but : AreListed content marks listing) where
  abbrev was_found : List ℕ → Bool
  was_found id = is_some (record_of content id)

  abbrev apart : List ℕ → Bool
  apart id = not (has marks id)

  abbrev all : List (List ℕ)
  all = unmarked marks listing.ids ++ found_among (seen_in content) marks

  -- the ids that are listed then are those of the content
  pub ids_now_are : in_order all ≡ ids_of content
  ids_now_are = ascending_same (in_order all) (ids_of content) (in_order_ascends all) but.in_order there back where
    there : (id : List ℕ) → Contains (in_order all) id → Contains (ids_of content) id
    there id inside = elim (Contains-append_cases (unmarked marks listing.ids) (found_among (seen_in content) marks) id ((in_order_has all id).0 inside)) [
      | inl kept ↦ (let is = kept_from apart listing.ids id kept in (but.listed id (apart_from marks id is.passes)).0 is.member)
      | inr read ↦ listed_record content.sysmods id (kept_from was_found marks id read).passes
    ]

    by : (id : List ℕ) → Contains (ids_of content) id → (b : Bool) → has marks id ≡ b → Contains all id
    by id inside true e = Contains-append_right (unmarked marks listing.ids) (found_among (seen_in content) marks) id (kept_inside was_found marks id (Contains-from_any {eq = same_id} one_id id marks e) (record_listed content.sysmods id inside))
    by id inside false e =
        let off : not (has marks id) ≡ true = ap not e in
        Contains-append_left (unmarked marks listing.ids) (found_among (seen_in content) marks) id (kept_inside apart listing.ids id ((but.listed id (apart_from marks id off)).1 inside) off)

    back : (id : List ℕ) → Contains (ids_of content) id → Contains (in_order all) id
    back id inside = (in_order_has all id).1 (by id inside (has marks id) refl)

  -- what wasn't marked is what isn't now
  pub kept_are : unmarked marks listing.ids ≡ unmarked marks (ids_of content)
  kept_are = ascending_same (unmarked marks listing.ids) (unmarked marks (ids_of content)) (filtered_ascend apart listing.ids but.ascend) (filtered_ascend apart (ids_of content) but.in_order)
      (λ id inside. let is = kept_from apart listing.ids id inside in kept_inside apart (ids_of content) id ((but.listed id (apart_from marks id is.passes)).0 is.member) is.passes)
      (λ id inside. let is = kept_from apart (ids_of content) id inside in kept_inside apart listing.ids id ((but.listed id (apart_from marks id is.passes)).1 is.member) is.passes)

  -- what was found of what is marked is what is marked of what is catalogued
  pub found_are : found_among (seen_in content) marks ≡ marked marks (ids_of content)
  found_are = ascending_same (found_among (seen_in content) marks) (marked marks (ids_of content)) (filtered_ascend was_found marks ascend) (filtered_ascend (has marks) (ids_of content) but.in_order)
      (λ id inside. let is = kept_from was_found marks id inside in kept_inside (has marks) (ids_of content) id (listed_record content.sysmods id is.passes) (any_at (same_id id) marks id is.member (itself id)))
      (λ id inside. let is = kept_from (has marks) (ids_of content) id inside in kept_inside was_found marks id (Contains-from_any {eq = same_id} one_id id marks is.passes) (record_listed content.sysmods id is.member))

-- what was read of those that are catalogued
filter_made : {A B : Type 0} (f : A → B) (test : B → Bool) (xs : List A) → filter test (map f xs) ≡ map f (filter (λ x. test (f x)) xs)
filter_made f test [] = refl
filter_made {A} {B} f test (x ∷ xs) = go (test (f x)) (filter_made f test xs) where
  go : (b : Bool) → filter test (map f xs) ≡ map f (filter (λ x. test (f x)) xs) → cond b (f x ∷ filter test (map f xs)) (filter test (map f xs)) ≡ map f (cond b (x ∷ filter (λ x. test (f x)) xs) (filter (λ x. test (f x)) xs))
  go true rest = ap (λ l. f x ∷ l) rest
  go false rest = rest

map_map : {A B C : Type 0} (f : A → B) (g : B → C) (xs : List A) → map g (map f xs) ≡ map (λ x. g (f x)) xs
map_map f g [] = refl
map_map f g (x ∷ xs) = ap (λ l. g (f x) ∷ l) (map_map f g xs)

pub found_sights : (content : Content) (marks : List (List ℕ)) (read : List SeenLists) → read ≡ map (seen_in content) marks
    → map sight_seen (catalogued_among read) ≡ map (sight_of content) (found_among (seen_in content) marks)
found_sights content marks read is =
    ap (λ l. map sight_seen (catalogued_among l)) is
    ∙ ap (map sight_seen) (filter_made (seen_in content) (λ seen. is_some seen.sysmod) marks)
    ∙ map_map (seen_in content) sight_seen (found_among (seen_in content) marks)

-- ---- one after the other

-- one element more of a list of which a test keeps some
pub kept_more : {A : Type 0} (test : A → Bool) (xs : List A) (i : ℕ) (x : A) → i < length xs → x ≡ get_or xs i x → filter test (take (i + 1) xs) ≡ filter test (take i xs) ++ cond (test x) (x ∷ []) []
kept_more {A} test xs i x below at = ap (filter test) (take_more xs i x below) ∙ filter-append test (take i xs) (get_or xs i x ∷ []) ∙ ap (λ (y : A). filter test (take i xs) ++ cond (test y) (y ∷ []) []) (sym at)

-- where an id is marked is whether a look-up finds it
pub has_index : (marks : List (List ℕ)) (id : List ℕ) (found : Option ℕ) → IfSome found (λ index. IsAt marks id index) → IfNone found (Contains marks id → ⊥) → is_some found ≡ has marks id
has_index marks id None some none = sym (off (has marks id) refl) where
  off : (b : Bool) → has marks id ≡ b → has marks id ≡ false
  off true e = absurd (none (Contains-from_any {eq = same_id} one_id id marks e))
  off false e = e
has_index marks id (Some index) some none = sym (any_at (same_id id) marks id (indexed_inside marks id index some) (itself id))

module _ (f : List ℕ → Sight) (marks ids : List (List ℕ)) (sights : List Sight) (i : ℕ) (id : List ℕ) (sight : Sight) (below : i < length ids) (at : id ≡ get_or ids i id) (kept : List Sight) (so_far : kept ≡ map f (unmarked marks (take i ids))) where
  -- one more isn't marked
  pub one_pushed : SaysBut f marks ids sights → get_or sights i unseen ≡ sight → has marks id ≡ false → (kept' : List Sight) → kept' ≡ kept ++ sight ∷ [] → kept' ≡ map f (unmarked marks (take (i + 1) ids))
  one_pushed says is off kept' pushed =
      let here : id_at ids i ≡ id = get_any ids i [] id below ∙ sym at in
      let apart : Contains marks (id_at ids i) → ⊥ = subst (λ (x : List ℕ). Contains marks x → ⊥) (sym here) (apart_from marks id (ap not off)) in
      let same : sight ≡ f id = sym is ∙ says i below apart ∙ ap f here in
      pushed
      ∙ ap (λ l. l ++ sight ∷ []) so_far
      ∙ ap (λ (s : Sight). map f (unmarked marks (take i ids)) ++ s ∷ []) same
      ∙ sym (map-append f (unmarked marks (take i ids)) (id ∷ []))
      ∙ ap (map f) (ap (λ b. unmarked marks (take i ids) ++ cond (not b) (id ∷ []) []) (sym off) ∙ sym (kept_more (λ x. not (has marks x)) ids i id below at))

  -- one more is marked
  pub one_passed : has marks id ≡ true → kept ≡ map f (unmarked marks (take (i + 1) ids))
  one_passed on =
      so_far
      ∙ ap (map f) (sym (append-nil (unmarked marks (take i ids))) ∙ ap (λ b. unmarked marks (take i ids) ++ cond (not b) (id ∷ []) []) (sym on) ∙ sym (kept_more (λ x. not (has marks x)) ids i id below at))

-- one mark more, of which a record was found or not
module _ (f : List ℕ → SeenLists) (marks : List (List ℕ)) (read : List SeenLists) (i : ℕ) (mark : List ℕ) (is : read ≡ map f marks) (below : i < length marks) (at : mark ≡ get_or marks i mark)
    (b : Bool) (said : (other : SeenLists) → i < length read → b ≡ is_some (get_or read i other).sysmod) (start now : List (List ℕ)) (so_far : now ≡ start ++ found_among f (take i marks)) where
  is_there : b ≡ is_some (f mark).sysmod
  is_there =
      let len = ap length is ∙ length-map marks f in
      said (f mark) (omega (arith, len, below))
      ∙ ap (λ l. is_some (get_or l i (f mark)).sysmod) is
      ∙ ap (λ (seen : SeenLists). is_some seen.sysmod) (get_or-map f marks i mark (f mark) below ∙ ap f (sym at))

  pub found_pushed : b ≡ true → (now' : List (List ℕ)) → now' ≡ now ++ mark ∷ [] → now' ≡ start ++ found_among f (take (i + 1) marks)
  found_pushed on now' pushed =
      pushed
      ∙ ap (λ l. l ++ mark ∷ []) so_far
      ∙ append_assoc start (found_among f (take i marks)) (mark ∷ [])
      ∙ ap (λ l. start ++ l) (ap (λ c. found_among f (take i marks) ++ cond c (mark ∷ []) []) (sym on ∙ is_there) ∙ sym (kept_more (λ x. is_some (f x).sysmod) marks i mark below at))

  pub found_passed : b ≡ false → now ≡ start ++ found_among f (take (i + 1) marks)
  found_passed off =
      so_far
      ∙ ap (λ l. start ++ l) (sym (append-nil (found_among f (take i marks))) ∙ ap (λ c. found_among f (take i marks) ++ cond c (mark ∷ []) []) (sym off ∙ is_there) ∙ sym (kept_more (λ x. is_some (f x).sysmod) marks i mark below at))

pub record IsFirstLeft {A : Type 0} (xs : List A) (i : ℕ) (x : A) (later : List A) : Type 0 where
  pub below : i < length xs
  pub at : (d : A) → get_or xs i d ≡ x
  pub rest : drop (i + 1) xs ≡ later

pub first_left : {A : Type 0} (xs : List A) (i : ℕ) (x : A) (rest : List A) → drop i xs ≡ x ∷ rest → IsFirstLeft xs i x rest
first_left [] zero x rest e = absurd (cc)
first_left [] (suc i) x rest e = absurd (cc)
first_left {A} (y ∷ ys) zero x rest e = record { below = omega arith; at = λ d. (let first : y ≡ x = cc in first); rest = (let later : ys ≡ rest = cc in later) }
first_left {A} (y ∷ ys) (suc i) x rest e =
    let so = first_left ys i x rest e in
    let one : suc i + 1 ≡ suc (i + 1) = omega arith in
    record { below = (let b = so.below in omega (arith, b)); at = λ d. so.at d; rest = ap (λ n. drop n (y ∷ ys)) one ∙ so.rest }

-- the entries so far, and those that are left of either list
pub record IsWoven (f : List ℕ → Sight) (marks ids : List (List ℕ)) (i : ℕ) (made of_kept of_found : List Sight) : Type 0 where
  pub so_far : made ≡ map f (take i ids)
  pub kept : of_kept ≡ map f (unmarked marks (drop i ids))
  pub found : of_found ≡ map f (marked marks (drop i ids))

pub begins_woven : (f : List ℕ → Sight) (marks ids : List (List ℕ)) (made kept found : List Sight) → made ≡ [] → kept ≡ map f (unmarked marks ids) → found ≡ map f (marked marks ids)
    → IsWoven f marks ids 0 made kept found
begins_woven f marks ids made kept found none are_kept are_found = record { so_far = none; kept = are_kept; found = are_found }

module _ (f : List ℕ → Sight) (marks ids : List (List ℕ)) (i : ℕ) (id : List ℕ) (made kept found : List Sight) (below : i < length ids) (at : id ≡ get_or ids i id) (so_far : IsWoven f marks ids i made kept found) where
  -- those that are left begin with this one
  left : drop i ids ≡ id ∷ drop (i + 1) ids
  left =
      let one : suc i ≡ i + 1 = omega arith in
      drop-cons ids i id below ∙ ap (λ n. get_or ids i id ∷ drop n ids) one ∙ ap (λ (x : List ℕ). x ∷ drop (i + 1) ids) (sym at)

  more_made : (sight : Sight) (made' : List Sight) → made' ≡ made ++ sight ∷ [] → sight ≡ f id → made' ≡ map f (take (i + 1) ids)
  more_made sight made' pushed is =
      pushed
      ∙ ap (λ l. l ++ sight ∷ []) so_far.so_far
      ∙ ap (λ s. map f (take i ids) ++ s ∷ []) (is ∙ ap f at)
      ∙ sym (map-append f (take i ids) (get_or ids i id ∷ []))
      ∙ ap (map f) (sym (take_more ids i id below))

  pub first_marked : has marks id ≡ true → found ≡ f id ∷ map f (marked marks (drop (i + 1) ids))
  first_marked on = so_far.found ∙ ap (λ l. map f (marked marks l)) left ∙ ap (λ b. map f (cond b (id ∷ marked marks (drop (i + 1) ids)) (marked marks (drop (i + 1) ids)))) on

  kept_on : has marks id ≡ true → kept ≡ map f (unmarked marks (drop (i + 1) ids))
  kept_on on = so_far.kept ∙ ap (λ l. map f (unmarked marks l)) left ∙ ap (λ b. map f (cond (not b) (id ∷ unmarked marks (drop (i + 1) ids)) (unmarked marks (drop (i + 1) ids)))) on

  pub first_kept : has marks id ≡ false → kept ≡ f id ∷ map f (unmarked marks (drop (i + 1) ids))
  first_kept off = so_far.kept ∙ ap (λ l. map f (unmarked marks l)) left ∙ ap (λ b. map f (cond (not b) (id ∷ unmarked marks (drop (i + 1) ids)) (unmarked marks (drop (i + 1) ids)))) off

  found_on : has marks id ≡ false → found ≡ map f (marked marks (drop (i + 1) ids))
  found_on off = so_far.found ∙ ap (λ l. map f (marked marks l)) left ∙ ap (λ b. map f (cond b (id ∷ marked marks (drop (i + 1) ids)) (marked marks (drop (i + 1) ids)))) off

  pub woven_marked : (sight : Sight) (made' found' : List Sight) → has marks id ≡ true → made' ≡ made ++ sight ∷ []
      → ((first : Sight) (rest : List Sight) → found ≡ first ∷ rest → (sight ≡ first) × (found' ≡ rest)) → IsWoven f marks ids (i + 1) made' kept found'
  woven_marked sight made' found' on pushed taken =
      let so = taken (f id) (map f (marked marks (drop (i + 1) ids))) (first_marked on) in
      record { so_far = more_made sight made' pushed so.0; kept = kept_on on; found = so.1 }

  pub woven_kept : (sight : Sight) (made' kept' : List Sight) → has marks id ≡ false → made' ≡ made ++ sight ∷ []
      → ((first : Sight) (rest : List Sight) → kept ≡ first ∷ rest → (sight ≡ first) × (kept' ≡ rest)) → IsWoven f marks ids (i + 1) made' kept' found
  woven_kept sight made' kept' off pushed taken =
      let so = taken (f id) (map f (unmarked marks (drop (i + 1) ids))) (first_kept off) in
      record { so_far = more_made sight made' pushed so.0; kept = so.1; found = found_on off }

-- ---- the whole

-- what was read of some ids, as it is listed
pub sights_seen : (content : Content) (ids : List (List ℕ)) (read : List SeenLists) → read ≡ map (seen_in content) ids → map sight_seen read ≡ map (sight_of content) ids
sights_seen content ids read is = ap (map sight_seen) is ∙ map_map (seen_in content) sight_seen ids

pub renewed_is : (content : Content) (marks : List (List ℕ)) (listing : ListingLists) → Ascend marks → IsListingBut content marks listing
    → (ids : List (List ℕ)) (kept found sights : List Sight) (read : List SeenLists) → read ≡ map (seen_in content) marks
    → ids ≡ in_order (unmarked marks listing.ids ++ found_among (seen_in content) marks)
    → kept ≡ map (sight_of content) (unmarked marks listing.ids)
    → found ≡ map sight_seen (catalogued_among read)
    → (kept ≡ map (sight_of content) (unmarked marks ids) → found ≡ map (sight_of content) (marked marks ids) → sights ≡ map (sight_of content) ids)
    → IsListing content (record { ids = ids; sights = sights })
renewed_is content marks listing ascend but ids kept found sights read read_is ids_is kept_is found_is woven =
    let f = sight_of content in
    let all = are_listed content marks listing but in
    let now : ids ≡ ids_of content = ids_is ∙ ids_now_are content marks listing ascend all in
    record {
      ids = now;
      sights = woven
          (kept_is ∙ ap (map f) (kept_are content marks listing ascend all) ∙ ap (λ l. map f (unmarked marks l)) (sym now))
          (found_is ∙ found_sights content marks read read_is ∙ ap (map f) (found_are content marks listing ascend all) ∙ ap (λ l. map f (marked marks l)) (sym now));
    }
