-- The members and their steps are those of the definitions that compute.
use Rattle.std.proofs.Common.{◌≡◌, ◌∙◌, ◌&&◌, ◌||◌, ℕ, zero, suc, ◌<◌, ◌≤◌, List, [], ◌∷◌, Bool, true, false, cond, length, map, refl, sym, ap, subst, inl, inr, arith}
use Rattle.std.specs.Prelude.{not}
use Rattle.std.specs.List.{Contains, filter, list_all, list_any, range_with_len}
use Rattle.std.proofs.lemmas.List.FromFn.{fill_by_all}
use Rattle.std.proofs.lemmas.Bool.{or_right, and_from, or_left, or_cases}
use Rattle.lemmas.proofs.ListFacts.{any_at, any_from, first_inside, first_true, inside_cases, kept_from, kept_inside, map_from, map_inside, none_inside, rest_inside, second_true}
use Rattle.lemmas.proofs.TestFacts.{same_test}
use Rattle.zone_lists.specs.declared.zones.ZoneRow.{ZoneRow}
use Rattle.catalogue.specs.Content.{Content}
use Rattle.catalogue.specs.Ids.{Ascend, same_id}
use Rattle.catalogue.proofs.IdFacts.{itself, one_id}
use Rattle.supersede.specs.Giving.{gives}
use Rattle.supersede.proofs.GivingFacts.{In}
use Rattle.supersede.proofs.PathFacts.{AllSources, shorten}
use Rattle.requisites.specs.Leads.{IsPath, Leads}
use Rattle.requisites.specs.Nodes.{IsMarked, Links, mark_of}
use Rattle.requisites.proofs.LeadsFacts.{leads_closed, leads_itself, leads_more}
use Rattle.requisites.proofs.SourceFacts.{marked_inside}
use Rattle.install_order.specs.Steps.{AreSteps, marked_in, may_come, steps_of}
use Rattle.install_order.proofs.ListFacts.{filter_twice, in_range, range_has}
use Rattle.install_order.proofs.RingFacts.{leads_joined}
use Rattle.verdicts.specs.Indices.{id_at}
use Rattle.verdicts.proofs.IndexFacts.{one_index}
use Rattle.verdicts.specs.United.{united}
use Rattle.zone_plans.specs.Graphs.{ids_of_steps}
use Rattle.zone_plans.specs.Members.{caused_in, is_needed, left_of, needed_within, needs_id, outdoes, zone_steps_of}

-- ---- lists

map_filter : {A B : Type 0} (g : A → B) (f : B → Bool) (xs : List A) → map g (filter (λ x. f (g x)) xs) ≡ filter f (map g xs)
map_filter g f [] = refl
map_filter {A} {B} g f (x ∷ xs) = go (f (g x)) (map_filter g f xs) where
  go : (b : Bool) → map g (filter (λ x. f (g x)) xs) ≡ filter f (map g xs)
      → map g (cond b (x ∷ filter (λ x. f (g x)) xs) (filter (λ x. f (g x)) xs)) ≡ cond b (g x ∷ filter f (map g xs)) (filter f (map g xs))
  go true rest = ap (λ l. g x ∷ l) rest
  go false rest = rest

pub filter_on : {A : Type 0} (p q : A → Bool) (xs : List A) → ((x : A) → Contains xs x → p x ≡ q x) → filter p xs ≡ filter q xs
filter_on p q [] same = refl
filter_on {A} p q (x ∷ xs) same =
    ap (λ b. cond b (x ∷ filter p xs) (filter p xs)) (same x (first_inside x xs))
    ∙ ap (λ l. cond (q x) (x ∷ l) l) (filter_on p q xs (λ y inside. same y (rest_inside x y xs inside)))

all_map : {A B : Type 0} (g : A → B) (p : B → Bool) (xs : List A) → list_all p (map g xs) ≡ list_all (λ x. p (g x)) xs
all_map g p [] = refl
all_map g p (x ∷ xs) = ap (λ b. p (g x) && b) (all_map g p xs)

filter_all : {A : Type 0} (p q : A → Bool) → ((x : A) → p x ≡ q x) → (xs : List A) → filter p xs ≡ filter q xs
filter_all p q same xs = filter_on p q xs (λ x inside. same x)

in_list : {X : Type 0} (xs : List X) (x : X) → Contains xs x → In xs x
in_list [] x h = absurd (none_inside x h)
in_list (y ∷ ys) x h = elim (inside_cases y x ys h) [ inl same ↦ inl same | inr later ↦ inr (in_list ys x later) ]

-- the steps of what is named are the names of the steps
steps_named : {A B : Type 0} (g : A → B) (leads : B → B → Bool) (most : ℕ) (xs : List A) → map (map g) (steps_of (λ a b. leads (g a) (g b)) most xs) ≡ steps_of leads most (map g xs)
steps_named g leads zero xs = refl
steps_named g leads (suc most) [] = refl
steps_named {A} {B} g leads (suc most) (first ∷ more) =
    ap (λ l. l ∷ map (map g) (steps_of own most (filter (λ one. not (may_come own xs one)) xs))) (comes ∙ map_filter g (may_come leads (map g xs)) xs)
    ∙ ap (λ l. filter (may_come leads (map g xs)) (map g xs) ∷ l)
    (steps_named g leads most (filter (λ one. not (may_come own xs one)) xs)
    ∙ ap (λ l. steps_of leads most l) (waits ∙ map_filter g (λ one. not (may_come leads (map g xs) one)) xs))
  where
    xs : List A
    xs = first ∷ more

    own : A → A → Bool
    own a b = leads (g a) (g b)

    same : (x : A) → may_come own xs x ≡ may_come leads (map g xs) (g x)
    same x = sym (all_map g (λ other. not (leads (g x) other) || leads other (g x)) xs)

    comes : map g (filter (may_come own xs) xs) ≡ map g (filter (λ x. may_come leads (map g xs) (g x)) xs)
    comes = ap (map g) (filter_all (may_come own xs) (λ x. may_come leads (map g xs) (g x)) same xs)

    waits : map g (filter (λ one. not (may_come own xs one)) xs) ≡ map g (filter (λ x. not (may_come leads (map g xs) (g x))) xs)
    waits = ap (map g) (filter_all (λ one. not (may_come own xs one)) (λ x. not (may_come leads (map g xs) (g x))) (λ x. ap not (same x)) xs)

-- ---- marked ids

-- the ids at the marks of a test are those that pass it
ids_marked : (ids : List (List ℕ)) (marks : List Bool) (f : List ℕ → Bool) → length marks ≡ length ids → ((p : ℕ) → p < length ids → mark_of marks p ≡ f (id_at ids p)) → map (id_at ids) (marked_in marks) ≡ filter f ids
ids_marked ids marks f len each =
    let N : ℕ → List (List ℕ) = λ n. map (id_at ids) (filter (mark_of marks) (range_with_len 0 n)) in
    let all : ids ≡ map (id_at ids) (range_with_len 0 (length ids)) = fill_by_all (id_at ids) ids (length ids) [] refl (λ k inside. refl) in
    ap N len
    ∙ ap (map (id_at ids)) (filter_on (mark_of marks) (λ p. f (id_at ids p)) (range_with_len 0 (length ids)) (λ p inside. let within = in_range 0 (length ids) p inside in each p (omega (arith, within.1))))
    ∙ map_filter (id_at ids) f (range_with_len 0 (length ids))
    ∙ ap (filter f) (sym all)

-- what is known of the members by their indices
pub record ByIndex (content : Content) (rows : List ZoneRow) (chosen ids : List (List ℕ)) (left : List Bool) (needs : List (List ℕ)) (members : List Bool) : Type 0 where
  pub ascend : Ascend ids
  pub left_len : length left ≡ length ids
  pub len : length members ≡ length ids
  pub left_is : (p : ℕ) → p < length ids → mark_of left p ≡ not (list_any (outdoes content (id_at ids p)) ids)
  pub linked : (p q : ℕ) → IsMarked left p → Links needs (length members) p q → IsMarked left q × (needs_id content rows (id_at ids p) (id_at ids q) ≡ true)
  pub link : (p q : ℕ) → IsMarked left p → IsMarked left q → needs_id content rows (id_at ids p) (id_at ids q) ≡ true → Links needs (length members) p q
  pub within : (p : ℕ) → IsMarked members p → IsMarked left p
  pub closed : (p q : ℕ) → IsMarked members p → Links needs (length members) p q → IsMarked members q
  pub start : (p : ℕ) → IsMarked left p → list_any (gives content (id_at ids p)) chosen ≡ true → IsMarked members p
  pub caused : (p : ℕ) → IsMarked members p → (start : ℕ) × IsMarked left start × (list_any (gives content (id_at ids start)) chosen ≡ true) × Leads (Links needs (length members)) start p

module _ (content : Content) (rows : List ZoneRow) (chosen ids : List (List ℕ)) (left : List Bool) (needs : List (List ℕ)) (members : List Bool) (a : ByIndex content rows chosen ids left needs members) where
  -- ---- needs among marked ids

  module _ (marks : List Bool) (len : length marks ≡ length ids) (in_left : (p : ℕ) → IsMarked marks p → IsMarked left p) (closed : (p q : ℕ) → IsMarked marks p → Links needs (length members) p q → IsMarked marks q) where
    abbrev named : List (List ℕ)
    named = map (id_at ids) (marked_in marks)

    mark_inside : (p : ℕ) → IsMarked marks p → p < length ids
    mark_inside p marked = omega (arith, marked_inside marks p marked, len)

    has_name : (p : ℕ) → IsMarked marks p → Contains named (id_at ids p)
    has_name p marked =
        map_inside (id_at ids) (marked_in marks) p (kept_inside (mark_of marks) (range_with_len 0 (length marks)) p (range_has 0 (length marks) p (omega arith) (omega (arith, marked_inside marks p marked))) marked.is)

    record IsNamed (id : List ℕ) : Type 0 where
      index : ℕ
      marked : IsMarked marks index
      is : id_at ids index ≡ id

    named_is : (id : List ℕ) → Contains named id → IsNamed id
    named_is id inside =
        let image = map_from (id_at ids) (marked_in marks) id inside in
        record { index = image.from; marked = record { is = (kept_from (mark_of marks) (range_with_len 0 (length marks)) image.from image.member).passes }; is = image.is }

    record Step (from next : List ℕ) : Type 0 where
      inside : Contains named from
      next_inside : Contains named next
      needed : needs_id content rows from next ≡ true

    to_path : (p : ℕ) (list : List ℕ) (q : ℕ) → IsMarked marks p → IsPath (Links needs (length members)) p list q → IsPath Step (id_at ids p) (map (id_at ids) list) (id_at ids q)
    to_path p [] q marked same = ap (id_at ids) same
    to_path p (z ∷ zs) q marked path =
        let z_marked = closed p z marked path.0 in (
          record { inside = has_name p marked; next_inside = has_name z z_marked; needed = (a.linked p z (in_left p marked) path.0).1 },
          to_path z zs q z_marked path.1,
        )

    sources : (from : List ℕ) (list : List (List ℕ)) (to : List ℕ) → IsPath Step from list to → AllSources (In named) from list
    sources from [] to path = tt
    sources from (next ∷ later) to path = (in_list named from path.0.inside, sources next later to path.1)

    path_found : (n : ℕ) (from : List ℕ) (list : List (List ℕ)) (to : List ℕ) → IsPath Step from list to → length list ≤ n → needed_within content rows named n from to ≡ true
    path_found zero from [] to same short = (let P : List ℕ → Type 0 = λ x. same_id from x ≡ true in subst P same (itself from))
    path_found (suc n) from [] to same short =
        or_left (same_id from to) (list_any (λ next. needs_id content rows from next && needed_within content rows named n next to) named)
        (let P : List ℕ → Type 0 = λ x. same_id from x ≡ true in subst P same (itself from))
    path_found zero from (next ∷ later) to path short = absurd (omega (arith, short))
    path_found (suc n) from (next ∷ later) to path short =
        or_right (same_id from to) (list_any (λ next. needs_id content rows from next && needed_within content rows named n next to) named)
        (any_at (λ (next : List ℕ). needs_id content rows from next && needed_within content rows named n next to) named next path.0.next_inside
        (and_from (needs_id content rows from next) (needed_within content rows named n next to) path.0.needed (path_found n next later to path.1 (omega (arith, short)))))

    -- where needs lead by index, they lead by id
    needed_if : (p q : ℕ) → IsMarked marks p → Leads (Links needs (length members)) p q → is_needed content rows named (id_at ids p) (id_at ids q) ≡ true
    needed_if p q marked leads =
        let path = to_path p leads.list q marked leads.path in
        let short =
        shorten Step (IsPath Step) (λ from next later to path. path) (λ from next later to path. path) (length named) named (omega arith) (id_at ids p) (map (id_at ids) leads.list) (id_at ids q) path
        (sources (id_at ids p) (map (id_at ids) leads.list) (id_at ids q) path) in
        path_found (length named) (id_at ids p) short.list (id_at ids q) short.path short.short

    record IsLed (p : ℕ) (id : List ℕ) : Type 0 where
      index : ℕ
      marked : IsMarked marks index
      is : id_at ids index ≡ id
      leads : Leads (Links needs (length members)) p index

    led_by : (n p : ℕ) (to : List ℕ) → IsMarked marks p → needed_within content rows named n (id_at ids p) to ≡ true → IsLed p to
    led_by zero p to marked h = record { index = p; marked = marked; is = one_id (id_at ids p) to h; leads = leads_itself (Links needs (length members)) p }
    led_by (suc n) p to marked h =
        elim (or_cases (same_id (id_at ids p) to) (list_any (λ next. needs_id content rows (id_at ids p) next && needed_within content rows named n next to) named) h) [
          | inl same ↦ record { index = p; marked = marked; is = one_id (id_at ids p) to same; leads = leads_itself (Links needs (length members)) p }
          | inr further ↦
              (let next = any_from (λ (next : List ℕ). needs_id content rows (id_at ids p) next && needed_within content rows named n next to) named further in
              let at = named_is next.element next.member in
              let N : List ℕ → Type 0 = λ x. needs_id content rows (id_at ids p) x ≡ true in
              let W : List ℕ → Type 0 = λ x. needed_within content rows named n x to ≡ true in
              let one = first_true (needs_id content rows (id_at ids p) next.element) (needed_within content rows named n next.element to) next.passes in
              let rest = second_true (needs_id content rows (id_at ids p) next.element) (needed_within content rows named n next.element to) next.passes in
              let link = a.link p at.index (in_left p marked) (in_left at.index at.marked) (subst N (sym at.is) one) in
              let led = led_by n at.index to at.marked (subst W (sym at.is) rest) in
              record { index = led.index; marked = led.marked; is = led.is; leads = leads_joined (leads_more (leads_itself (Links needs (length members)) p) link) led.leads })
        ]

    if_needed : (p q : ℕ) → IsMarked marks p → IsMarked marks q → is_needed content rows named (id_at ids p) (id_at ids q) ≡ true → Leads (Links needs (length members)) p q
    if_needed p q marked other h =
        let led = led_by (length named) p (id_at ids q) marked h in
        let same = one_index ids led.index q [] a.ascend (mark_inside led.index led.marked) (mark_inside q other) led.is in
        let P : ℕ → Type 0 = λ k. Leads (Links needs (length members)) p k in
        subst P same led.leads

  -- ---- the members

  left_ids : map (id_at ids) (marked_in left) ≡ left_of content ids
  left_ids = ids_marked ids left (λ id. not (list_any (outdoes content id) ids)) a.left_len a.left_is

  left_closed : (p q : ℕ) → IsMarked left p → Links needs (length members) p q → IsMarked left q
  left_closed p q marked link = (a.linked p q marked link).0

  keep_left : (p : ℕ) → IsMarked left p → IsMarked left p
  keep_left p marked = marked

  abbrev is_caused : List ℕ → Bool
  is_caused id = list_any (λ start. list_any (gives content start) chosen && is_needed content rows (left_of content ids) start id) (left_of content ids)

  member_if : (p : ℕ) → IsMarked left p → is_caused (id_at ids p) ≡ true → IsMarked members p
  member_if p marked h =
      let L : List (List ℕ) → Type 0 = λ l. list_any (λ start. list_any (gives content start) chosen && is_needed content rows l start (id_at ids p)) l ≡ true in
      let found = any_from (λ (start : List ℕ). list_any (gives content start) chosen && is_needed content rows (map (id_at ids) (marked_in left)) start (id_at ids p)) (map (id_at ids) (marked_in left)) (subst L (sym left_ids) h) in
      let at = named_is left a.left_len keep_left left_closed found.element found.member in
      let G : List ℕ → Type 0 = λ x. list_any (gives content x) chosen ≡ true in
      let N : List ℕ → Type 0 = λ x. is_needed content rows (map (id_at ids) (marked_in left)) x (id_at ids p) ≡ true in
      let one = first_true (list_any (gives content found.element) chosen) (is_needed content rows (map (id_at ids) (marked_in left)) found.element (id_at ids p)) found.passes in
      let rest = second_true (list_any (gives content found.element) chosen) (is_needed content rows (map (id_at ids) (marked_in left)) found.element (id_at ids p)) found.passes in
      let start = a.start at.index at.marked (subst G (sym at.is) one) in
      leads_on at.index p start (if_needed left a.left_len keep_left left_closed at.index p at.marked marked (subst N (sym at.is) rest))
    where
      leads_on : (s p : ℕ) → IsMarked members s → Leads (Links needs (length members)) s p → IsMarked members p
      leads_on s p marked leads = leads_closed (λ k. IsMarked members k) (λ u v here link. a.closed u v here link) marked leads

  if_member : (p : ℕ) → IsMarked members p → is_caused (id_at ids p) ≡ true
  if_member p marked =
      let from = a.caused p marked in
      let L : List (List ℕ) → Type 0 = λ l. list_any (λ start. list_any (gives content start) chosen && is_needed content rows l start (id_at ids p)) l ≡ true in
      let named = map (id_at ids) (marked_in left) in
      subst L left_ids
      (any_at (λ (start : List ℕ). list_any (gives content start) chosen && is_needed content rows named start (id_at ids p)) named (id_at ids from.0) (has_name left a.left_len keep_left left_closed from.0 from.1)
      (and_from (list_any (gives content (id_at ids from.0)) chosen) (is_needed content rows named (id_at ids from.0) (id_at ids p)) from.2 (needed_if left a.left_len keep_left left_closed from.0 p from.1 from.3)))

  member_is : (p : ℕ) → p < length ids → mark_of members p ≡ (not (list_any (outdoes content (id_at ids p)) ids) && is_caused (id_at ids p))
  member_is p within =
      same_test (mark_of members p) (not (list_any (outdoes content (id_at ids p)) ids) && is_caused (id_at ids p))
      (λ on. let marked : IsMarked members p = record { is = on } in
      and_from (not (list_any (outdoes content (id_at ids p)) ids)) (is_caused (id_at ids p)) (sym (a.left_is p within) ∙ (a.within p marked).is) (if_member p marked))
      (λ on. let first = first_true (not (list_any (outdoes content (id_at ids p)) ids)) (is_caused (id_at ids p)) on in
      let second = second_true (not (list_any (outdoes content (id_at ids p)) ids)) (is_caused (id_at ids p)) on in
      (member_if p (record { is = a.left_is p within ∙ first }) second).is)

  member_ids : map (id_at ids) (marked_in members) ≡ caused_in content rows chosen (left_of content ids)
  member_ids =
      ids_marked ids members (λ id. not (list_any (outdoes content id) ids) && is_caused id) a.len member_is
      ∙ sym (filter_twice is_caused (λ id. not (list_any (outdoes content id) ids)) (λ id. not (list_any (outdoes content id) ids) && is_caused id) ids
      (λ x inside on. sym (and_on (not (list_any (outdoes content x) ids)) (is_caused x) on)) (λ x off. and_off (not (list_any (outdoes content x) ids)) (is_caused x) off))
    where
      and_on : (b c : Bool) → b ≡ true → (b && c) ≡ c
      and_on true c e = refl
      and_on false c e = absurd (cc)

      and_off : (b c : Bool) → b ≡ false → (b && c) ≡ false
      and_off true c e = absurd (cc)
      and_off false c e = refl

  -- ---- the steps

  pub steps_are : (steps : List (List ℕ)) → ids ≡ united content rows chosen → AreSteps needs members steps → ids_of_steps ids steps ≡ zone_steps_of content rows chosen
  steps_are steps are stepped =
      let named = map (id_at ids) (marked_in members) in
      let leads : List ℕ → List ℕ → Bool = is_needed content rows named in
      let by_index : steps ≡ steps_of (λ p q. leads (id_at ids p) (id_at ids q)) (length members) (marked_in members) =
      stepped (λ p q. leads (id_at ids p) (id_at ids q)) (λ p q first second. (
        λ h. if_needed members a.len a.within a.closed p q first second h,
        λ led. needed_if members a.len a.within a.closed p q first led,
      )) in
      let Z : List (List ℕ) → List (List (List ℕ)) = λ l. steps_of (is_needed content rows l) (length ids) l in
      let V : List (List ℕ) → List (List (List ℕ)) = λ l. steps_of (is_needed content rows (caused_in content rows chosen (left_of content l))) (length l) (caused_in content rows chosen (left_of content l)) in
      ap (ids_of_steps ids) by_index
      ∙ steps_named (id_at ids) leads (length members) (marked_in members)
      ∙ ap (λ n. steps_of leads n named) a.len
      ∙ ap Z member_ids
      ∙ ap V are
