-- Gathering those that give an id.
use Rattle.std.proofs.Common.{◌≡◌, ◌↔◌, ℕ, zero, suc, ◌+◌, ◌<◌, ◌≤◌, ◌&&◌, ◌||◌, ◌∙◌, Bool, true, false, List, [], ◌∷◌, ◌++◌, length, filter, get_or, take, inl, inr, is_some, not, Some, None, refl, sym, ap, subst, arith}
use Rattle.std.specs.BTreeSet.{insert_key}
use Rattle.std.specs.Cmp.{both_ways}
use Rattle.std.specs.List.{AllByRecursion, Contains, find, list_any}
use Rattle.std.specs.List.Sorted.{IsStrictlySortedBy}
use Rattle.std.specs.declared.cmp.Ordering.{Ordering}
use Rattle.std.specs.declared.cmp.Ordering.TheVariants.{Less, Equal, Greater}
use Rattle.std.proofs.lemmas.List.{append_assoc, length-append, take_more}
use Rattle.std.proofs.lemmas.List.Folds.{list_any-append}
use Rattle.std.proofs.lemmas.List.Kept.{IsStrictlySortedBy-filter}
use Rattle.std.proofs.lemmas.List.Sums.{fold-append}
use Rattle.std.proofs.lemmas.Map.Views.{Contains-from_any, list_any-from_Contains}
use Rattle.std.specs.Cmp.Lexicographic.{nat_list_eq_equiv}
use Rattle.std.proofs.lemmas.Bool.{and_parts, or_right, or_left, or_cases}
use Rattle.lemmas.proofs.TestFacts.{or_false}
use Rattle.catalogue.specs.Content.{Content, ids_in, ids_of, is_of, record_of, superseders, Supersedes}
use Rattle.catalogue.specs.Ids.{Ascend, id_cmp, put_among, same_id}
use Rattle.catalogue.proofs.IdFacts.{any_insert, apart, exact_ids, fold_any, itself, one_id, turned, all_below}
use Rattle.catalogue.proofs.SupersedeFacts.{superseder_catalogued, superseder_is}
use Rattle.catalogue.specs.declared.sysmod.Sysmod.{Sysmod}
use Rattle.supersede.specs.Giving.{gives, givers_of}
use Rattle.supersede.specs.Leading.{Gives, IsWay}
use Rattle.supersede.specs.Reach.{Alike, Continues, IsReach, Leads, has, is_other}
use Rattle.supersede.proofs.LeadingFacts.{gives_is}

-- ---- members of lists

pub has_from : (ids : List (List ℕ)) (id : List ℕ) → Contains ids id → has ids id ≡ true
has_from ids id h = list_any-from_Contains {eq = same_id} nat_list_eq_equiv id ids h

pub has_to : (ids : List (List ℕ)) (id : List ℕ) → has ids id ≡ true → Contains ids id
has_to ids id h = Contains-from_any {eq = same_id} one_id id ids h

has_at : (ids : List (List ℕ)) (k : ℕ) (d : List ℕ) → k < length ids → has ids (get_or ids k d) ≡ true
has_at [] k d within = absurd (omega arith)
has_at (x ∷ ids) zero d within = or_left _ _ (itself x)
has_at (x ∷ ids) (suc k) d within = or_right (same_id (get_or ids k d) x) _ (has_at ids k d (omega arith))

-- ---- new ids go to the end

pub alike_with : (keys order : List (List ℕ)) (id : List ℕ) → Alike keys order → Alike (insert_key id_cmp keys id) (order ++ id ∷ [])
alike_with keys order id alike test =
    any_insert test keys id ∙ ap (λ b. test id || b) (alike test) ∙ or_swap_back (test id) (list_any test order) ∙ sym (list_any-append test order (id ∷ []))
  where
    or_swap_back : (a b : Bool) → (a || b) ≡ (b || (a || false))
    or_swap_back true true = refl
    or_swap_back true false = refl
    or_swap_back false true = refl
    or_swap_back false false = refl

pub continues_with : (old order : List (List ℕ)) (id : List ℕ) → Continues old order → Continues old (order ++ id ∷ [])
continues_with old order id so_far = record { more = so_far.more ++ id ∷ []; is = ap (λ xs. xs ++ id ∷ []) so_far.is ∙ append_assoc old so_far.more (id ∷ []) }

pub found_more : (old now new ids : List (List ℕ)) (i : ℕ) (id : List ℕ) → i < length ids → id ≡ get_or ids i id → now ≡ put_among old (take i ids) → new ≡ insert_key id_cmp now id
    → new ≡ put_among old (take (i + 1) ids)
found_more old now new ids i id below at was is =
    is
    ∙ ap (λ keys. insert_key id_cmp keys id) was
    ∙ sym (fold-append (insert_key id_cmp) old (take i ids) (id ∷ []))
    ∙ ap (put_among old) (sym (take_more ids i id below ∙ ap (λ x. take i ids ++ x ∷ []) (sym at)))

pub still_has : (old new : List (List ℕ)) (id : List ℕ) → Continues old new → has old id ≡ true → has new id ≡ true
still_has old new id goes_on h = ap (λ ids. has ids id) goes_on.is ∙ list_any-append (same_id id) old goes_on.more ∙ or_left (has old id) (has goes_on.more id) h

pub longer : (old new : List (List ℕ)) (at : ℕ) → Continues old new → at < length old → at + 1 ≤ length new
longer old new at goes_on within =
    let as_long : length new ≡ length old + length goes_on.more = ap length goes_on.is ∙ length-append old goes_on.more in
    omega (arith, as_long, within)

-- ---- the walk

-- what was found so far leads to the id, and what supersedes those that were asked for was found
pub record Walked (content : Content) (order asked : List (List ℕ)) (id : List ℕ) : Type 0 where
  pub leads : (from : List ℕ) → has order from ≡ true → Leads content from id
  pub closed : (next above : List ℕ) → has asked next ≡ true → has (superseders content next) above ≡ true → has order above ≡ true

-- the same content without its holds, where order is that of the ids alone
abbrev without_holds : Content → Content
without_holds content = record { sysmods = content.sysmods; holds = [] }

pub superseding : (content : Content) → Ascend (ids_of content) → (id above : List ℕ) → Contains (superseders content id) above ↔ Supersedes content above id
unfolding IsStrictlySortedBy
superseding content ascend id above = superseder_is (without_holds content) id above (record { sysmods = ascend; holds = tt })

pub walk_begins : (content : Content) (id : List ℕ) → Walked content (id ∷ []) [] id
walk_begins content id = record {
  leads = λ from h. let same : from ≡ id = one_id from id (or_false (same_id from id) ∙ h) in record { way = []; leads = same };
  closed = λ next above none. absurd (cc none);
}

take_front : (xs ys : List (List ℕ)) (n : ℕ) → n ≤ length xs → take n (xs ++ ys) ≡ take n xs
take_front [] ys zero le = refl
take_front [] ys (suc n) le = absurd (omega (arith, le))
take_front (x ∷ xs) ys zero le = refl
take_front (x ∷ xs) ys (suc n) le = ap (λ rest. x ∷ rest) (take_front xs ys n (omega (arith, le)))

pub walk_goes_on : (content : Content) → Ascend (ids_of content) → (id next : List ℕ) (keys_old keys_new old new above : List (List ℕ)) (at : ℕ)
    → at < length old → next ≡ get_or old at next → above ≡ superseders content next
    → Alike keys_old old → Alike keys_new new → keys_new ≡ put_among keys_old above → Continues old new
    → Walked content old (take at old) id → Walked content new (take (at + 1) new) id
walk_goes_on content ascend id next keys_old keys_new old new above at within is told alike_old alike_new keys goes_on walked = record {
  leads = λ from h. elim (or_cases (has old from) (has above from) (sym (grown from) ∙ h)) [
    | inl before ↦ walked.leads from before
    | inr now ↦
        let step = (superseding content ascend next from).0 (has_to (superseders content next) from (ap (λ ids. has ids from) (sym told) ∙ now)) in
        let rest = walked.leads next here in
        record { way = next ∷ rest.way; leads = (step, rest.leads) }
  ];
  closed = λ n y asked stands. elim (or_cases (has (take at old) n) (same_id n next || false) (sym (asked_now n) ∙ asked)) [
    | inl before ↦ grown y ∙ or_left (has old y) (has above y) (walked.closed n y before stands)
    | inr now ↦
        let same : n ≡ next = one_id n next (or_false (same_id n next) ∙ now) in
        grown y ∙ or_right (has old y) (has above y) (ap (λ ids. has ids y) told ∙ ap (λ m. has (superseders content m) y) (sym same) ∙ stands)
  ];
}
  where
    here : has old next ≡ true
    here = ap (has old) is ∙ has_at old at next within

    grown : (y : List ℕ) → has new y ≡ (has old y || has above y)
    grown y =
        sym (alike_new (same_id y)) ∙ ap (list_any (same_id y)) keys ∙ fold_any (same_id y) keys_old above ∙ ap (λ b. b || has above y) (alike_old (same_id y))

    front : take (at + 1) new ≡ take at old ++ next ∷ []
    front = ap (take (at + 1)) goes_on.is ∙ take_front old goes_on.more (at + 1) (omega (arith, within)) ∙ take_more old at next within ∙ ap (λ x. take at old ++ x ∷ []) (sym is)

    asked_now : (n : List ℕ) → has (take (at + 1) new) n ≡ (has (take at old) n || (same_id n next || false))
    asked_now n = ap (λ ids. has ids n) front ∙ list_any-append (same_id n) (take at old) (next ∷ [])

along : (content : Content) → Ascend (ids_of content) → (order : List (List ℕ)) (id : List ℕ) → has order id ≡ true
    → ((next above : List ℕ) → has order next ≡ true → has (superseders content next) above ≡ true → has order above ≡ true)
    → (way : List (List ℕ)) (from : List ℕ) → IsWay content from way id → has order from ≡ true
along content ascend order id begun closed [] from same = ap (has order) same ∙ begun
along content ascend order id begun closed (next ∷ later) from leads =
    closed next from (along content ascend order id begun closed later next leads.1)
    (has_from (superseders content next) from ((superseding content ascend next from).1 leads.0))

pub walk_ends : (content : Content) → Ascend (ids_of content) → (order keys : List (List ℕ)) (id : List ℕ) → has order id ≡ true → Alike keys order → Walked content order order id → IsReach content keys id
walk_ends content ascend order keys id begun alike walked = record {
  leads = λ from h. walked.leads from (sym (alike (same_id from)) ∙ h);
  whole = λ from leads. alike (same_id from) ∙ along content ascend order id begun walked.closed leads.way from leads.leads;
}

-- ---- lists in order with the same members

none_below : (x : List ℕ) (ids : List (List ℕ)) → AllByRecursion (λ y. id_cmp x y ≡ Less) ids → has ids x ≡ false
none_below x [] all = refl
none_below x (y ∷ ids) all = rw (apart x y all.0) (none_below x ids all.1)

pub one_list : (xs ys : List (List ℕ)) → Ascend xs → Ascend ys → ((id : List ℕ) → has xs id ≡ has ys id) → xs ≡ ys
unfolding IsStrictlySortedBy
one_list [] [] up_x up_y same = refl
one_list [] (y ∷ ys) up_x up_y same = let h : false ≡ true = same y ∙ or_left _ _ (itself y) in absurd (cc h)
one_list (x ∷ xs) [] up_x up_y same = let h : true ≡ false = sym (or_left _ (has xs x) (itself x)) ∙ same x in absurd (cc h)
one_list (x ∷ xs) (y ∷ ys) up_x up_y same = by (one_list xs ys up_x.1 up_y.1) (id_cmp x y) refl
  where
    tails : x ≡ y → (id : List ℕ) (b : Bool) → same_id id x ≡ b → has xs id ≡ has ys id
    tails is id true at =
        let this : id ≡ x = one_id id x at in
        ap (has xs) this ∙ none_below x xs up_x.0 ∙ sym (ap (has ys) (this ∙ is) ∙ none_below y ys up_y.0)
    tails is id false at =
        let there : same_id id y ≡ false = ap (same_id id) (sym is) ∙ at in
        rw (at, there) at (same id)

    by : (((id : List ℕ) → has xs id ≡ has ys id) → xs ≡ ys) → (o : Ordering) → id_cmp x y ≡ o → (x ∷ xs) ≡ (y ∷ ys)
    by rest Equal at =
        let is : x ≡ y = exact_ids x y at in
        ap (λ z. z ∷ xs) is ∙ ap (λ zs. y ∷ zs) (rest (λ id. tails is id (same_id id x) refl))
    by rest Less at =
        let none : has (y ∷ ys) x ≡ false = none_below x (y ∷ ys) (at, all_below x y ys at up_y.0) in
        let h : true ≡ false = sym (or_left _ (has xs x) (itself x)) ∙ same x ∙ none in
        absurd (cc h)
    by rest Greater at =
        let below : id_cmp y x ≡ Less = turned x y at in
        let none : has (x ∷ xs) y ≡ false = none_below y (x ∷ xs) (below, all_below y x xs below up_x.0) in
        let h : true ≡ false = sym (or_left _ (has ys y) (itself y)) ∙ sym (same y) ∙ none in
        absurd (cc h)

has_filter : (p : List ℕ → Bool) (ids : List (List ℕ)) (id : List ℕ) → has (filter p ids) id ≡ (has ids id && p id)
has_filter p [] id = refl
has_filter p (x ∷ ids) id = by (same_id id x) refl (p x) refl (has_filter p ids id)
  where
    by : (s : Bool) → same_id id x ≡ s → (b : Bool) → p x ≡ b → has (filter p ids) id ≡ (has ids id && p id) → has (filter p (x ∷ ids)) id ≡ ((same_id id x || has ids id) && p id)
    by true same true passes rest = let this : p id ≡ true = ap p (one_id id x same) ∙ passes in rw (passes, same, this) refl
    by true same false fails rest = let this : p id ≡ false = ap p (one_id id x same) ∙ fails in rw (fails, same, rest, this) (none (has ids id))
      where
        none : (b : Bool) → (b && false) ≡ false
        none true = refl
        none false = refl
    by false other true passes rest = rw (passes, other) rest
    by false other false fails rest = rw (fails, other) rest

-- those of a reach that are catalogued are the givers
pub reach_gives : (content : Content) (catalogued keys : List (List ℕ)) (id : List ℕ) → Ascend catalogued → Ascend keys → catalogued ≡ ids_of content
    → IsReach content keys id → filter (has catalogued) keys ≡ givers_of content id
reach_gives content catalogued keys id up_catalogued up_keys is reach =
    one_list (filter (has catalogued) keys) (givers_of content id)
    (IsStrictlySortedBy-filter id_cmp (has catalogued) keys up_keys)
    (IsStrictlySortedBy-filter id_cmp (λ giver. gives content giver id) (ids_of content) (subst Ascend is up_catalogued))
    (λ giver. has_filter (has catalogued) keys giver ∙ by giver ∙ sym (has_filter (λ other. gives content other id) (ids_of content) giver))
  where
    by : (giver : List ℕ) → (has keys giver && has catalogued giver) ≡ (has (ids_of content) giver && gives content giver id)
    by giver = both_ways _ _ (
        λ h.
        let parts = and_parts (has keys giver) (has catalogued giver) h in
        let way = reach.leads giver parts.0 in
        let known : has (ids_of content) giver ≡ true = ap (λ ids. has ids giver) (sym is) ∙ parts.1 in
        let gives_it = (gives_is content giver id).1 (record { catalogued = has_to (ids_of content) giver known; way = way.way; leads = way.leads }) in
        rw (known, gives_it) refl
        ) (
        λ h.
        let parts = and_parts (has (ids_of content) giver) (gives content giver id) h in
        let gives_it = (gives_is content giver id).0 parts.1 in
        let found = reach.whole giver (record { way = gives_it.way; leads = gives_it.leads }) in
        let known : has catalogued giver ≡ true = ap (λ ids. has ids giver) is ∙ parts.0 in
        rw (found, known) refl
        )

pub each_gives : (content : Content) (ids : List (List ℕ)) (id giver : List ℕ) → ids ≡ givers_of content id → Contains ids giver ↔ Gives content giver id
each_gives content ids id giver are = (
  λ h.
      let stands = ap (λ list. has list giver) (sym are) ∙ has_from ids giver h in
      let parts = and_parts (has (ids_of content) giver) (gives content giver id) (sym (has_filter (λ other. gives content other id) (ids_of content) giver) ∙ stands) in
      (gives_is content giver id).0 parts.1,
  λ gives_it.
      let known = has_from (ids_of content) giver gives_it.catalogued in
      let so = (gives_is content giver id).1 gives_it in
      let stands : has (givers_of content id) giver ≡ true = has_filter (λ other. gives content other id) (ids_of content) giver ∙ rw (known, so) refl in
      has_to ids giver (ap (λ list. has list giver) are ∙ stands),
)

-- ---- those of a reach that aren't the id itself are catalogued

same_filter : (p q : List ℕ → Bool) (ids : List (List ℕ)) → ((id : List ℕ) → has ids id ≡ true → p id ≡ q id) → filter p ids ≡ filter q ids
same_filter p q [] same = refl
same_filter p q (x ∷ ids) same =
    rw (same x (or_left _ _ (itself x)), same_filter p q ids (λ id there. same id (or_right (same_id id x) _ there))) refl

all_stay : (ids : List (List ℕ)) → filter (λ id. true) ids ≡ ids
all_stay [] = refl
all_stay (x ∷ ids) = ap (λ rest. x ∷ rest) (all_stay ids)

above_is_catalogued : (content : Content) → Ascend (ids_of content) → (from id : List ℕ) → Leads content from id → same_id from id ≡ false → has (ids_of content) from ≡ true
above_is_catalogued content ascend from id leads other = by leads.way leads.leads
  where
    by : (way : List (List ℕ)) → IsWay content from way id → has (ids_of content) from ≡ true
    by [] same = let is : true ≡ false = sym (itself id) ∙ ap (λ x. same_id x id) (sym same) ∙ other in absurd (cc is)
    by (next ∷ later) way =
        has_from (ids_of content) from (superseder_catalogued content next from ((superseding content ascend next from).1 way.0))

recorded : (sysmods : List Sysmod) (id : List ℕ) → is_some (find (is_of id) sysmods) ≡ has (ids_in sysmods) id
recorded [] id = refl
recorded (s ∷ rest) id = by (same_id s.id id) refl (recorded rest id)
  where
    by : (b : Bool) → same_id s.id id ≡ b → is_some (find (is_of id) rest) ≡ has (ids_in rest) id → is_some (find (is_of id) (s ∷ rest)) ≡ (same_id id s.id || has (ids_in rest) id)
    by true at known = let is : s.id ≡ id = one_id s.id id at in rw (at, is, itself id) refl
    by false at known = let turned_is : same_id id s.id ≡ false = other_way (same_id id s.id) refl in rw (at, turned_is) known
      where
        other_way : (b : Bool) → same_id id s.id ≡ b → b ≡ false
        other_way false h = refl
        other_way true h = let is : id ≡ s.id = one_id id s.id h in let same : true ≡ false = sym (itself id) ∙ ap (λ x. same_id x id) is ∙ at in cc same

module _ (content : Content) (ascend : Ascend (ids_of content)) (keys : List (List ℕ)) (id : List ℕ) (up : Ascend keys) (reach : IsReach content keys id) where
  is_catalogued : (from : List ℕ) → has keys from ≡ true → (b : Bool) → same_id from id ≡ b → has (ids_of content) from ≡ (b && has (ids_of content) id || not b)
  is_catalogued from stands true same = let is : from ≡ id = one_id from id same in ap (has (ids_of content)) is ∙ plain (has (ids_of content) id)
    where
      plain : (b : Bool) → b ≡ (b || false)
      plain true = refl
      plain false = refl
  is_catalogued from stands false other = above_is_catalogued content ascend from id (reach.leads from stands) other

  -- of a catalogued id the whole reach gives it
  pub reach_whole : (sysmod : Sysmod) → Some sysmod ≡ record_of content id → keys ≡ givers_of content id
  reach_whole sysmod is =
      let known : has (ids_of content) id ≡ true = sym (recorded content.sysmods id) ∙ ap is_some (sym is) in
      sym (all_stay keys)
      ∙ same_filter (λ other. true) (has (ids_of content)) keys (λ from stands. sym (is_catalogued from stands (same_id from id) refl ∙ by known (same_id from id)))
      ∙ reach_gives content (ids_of content) keys id ascend up refl reach
    where
      by : has (ids_of content) id ≡ true → (b : Bool) → (b && has (ids_of content) id || not b) ≡ true
      by known true = rw known refl
      by known false = refl

  -- of one that isn't, all the others of it do
  pub reach_but_itself : None ≡ record_of content id → filter (is_other id) keys ≡ givers_of content id
  reach_but_itself none =
      let unknown : has (ids_of content) id ≡ false = sym (recorded content.sysmods id) ∙ ap is_some (sym none) in
      same_filter (is_other id) (has (ids_of content)) keys (λ from stands. sym (is_catalogued from stands (same_id from id) refl ∙ by unknown (same_id from id)))
      ∙ reach_gives content (ids_of content) keys id ascend up refl reach
    where
      by : has (ids_of content) id ≡ false → (b : Bool) → (b && has (ids_of content) id || not b) ≡ not b
      by unknown true = rw unknown refl
      by unknown false = refl
