-- The table of blocked needs.
use Rattle.std.proofs.Common.{◌≡◌, ◌∙◌, ◌⊎◌, ◌≤◌, ℕ, zero, suc, List, [], ◌∷◌, ◌++◌, true, Option, Some, None, is_some, length, map, refl, sym, ap, subst, inl, inr, arith}
use Rattle.std.specs.BTreeMap.{insert_entry, is_at}
use Rattle.std.specs.BTreeSet.{insert_key}
use Rattle.std.specs.List.{Contains, cons_option, filter_map, find, flat_map}
use Rattle.std.specs.Map.{lookup}
use Rattle.std.proofs.lemmas.List.Elements.{Contains-append_cases, Contains-append_left, Contains-append_right}
use Rattle.std.proofs.lemmas.List.{length-map}
use Rattle.lemmas.proofs.ListFacts.{first_inside, flat_from, flat_inside, inside_cases, kept_from, made_from, map_found, none_inside, rest_inside}
use Rattle.zone_lists.specs.declared.zones.ZoneRow.{ZoneRow}
use Rattle.catalogue.specs.Content.{Content, ids_of}
use Rattle.std.specs.List.Sorted.{IsStrictlySortedBy}
use Rattle.catalogue.specs.Ids.{Ascend, id_cmp, in_order}
use Rattle.catalogue.specs.declared.sysmod.Sysmod.{Sysmod}
use Rattle.catalogue.proofs.IdFacts.{in_order_ascends, in_order_has, insert_ascends}
use Rattle.supersede.specs.Giving.{gives, givers_of, is_candidate}
use Rattle.supersede.specs.Leading.{Gives}
use Rattle.supersede.proofs.GivingFacts.{In}
use Rattle.supersede.proofs.LeadingFacts.{gives_is}
use Rattle.supersede.proofs.PathFacts.{AllSources, shorten}
use Rattle.requisites.specs.Leads.{IsPath, Leads}
use Rattle.requisites.specs.World.{IsGoodGiver}
use Rattle.requisites.proofs.LeadsFacts.{leads_itself, leads_more}
use Rattle.verdicts.specs.Judge.{status_of}
use Rattle.verdicts.specs.Verdicts.{Judged, good, held, lack, verdict_of}
use Rattle.verdicts.specs.Worlds.{IsVerdict, world_of}
use Rattle.verdicts.specs.declared.verdict.Status.TheVariants as status
use Rattle.verdicts.proofs.GoodFacts.{candidate_inside}
use Rattle.verdicts.proofs.OrderFacts.{ascending_same, find_inside}
use Rattle.verdicts.proofs.StatusFacts.{find_some}
use Rattle.verdicts.proofs.VerdictFacts.{found_verdict}
use Rattle.blocked_needs.specs.Blocked.{AreBlockedNeeds, HasRow, IsRightRow, blocked_at, blocked_by, giver_of, is_published, next_by, next_of, waits_within}
use Rattle.blocked_needs.specs.Seen.{AreSeen, IsComeTo, IsNext, entry_of}
use Rattle.blocked_needs.specs.declared.blocked.BlockedNeed.{BlockedNeed}
use Rattle.blocked_needs.proofs.ListFacts.{entry_inside, filter_map_map, put_entry, put_first, put_from, put_rest}

module _ (content : Content) (rows : List ZoneRow) where
  -- ---- what blocks one

  pub record IsHeldAt (id : List ℕ) (blocked : BlockedNeed) : Type 0 where
    pub verdict : verdict_of content rows id ≡ held blocked.need
    pub sysmod : blocked.sysmod ≡ id
    pub giver : blocked.giver ≡ giver_of content rows blocked.need
    pub published : blocked.published ≡ is_published content blocked.need

  pub held_at : (id : List ℕ) (blocked : BlockedNeed) → blocked_at content rows id ≡ Some blocked → IsHeldAt id blocked
  held_at id blocked e = go (verdict_of content rows id) refl e where
    go : (judged : Judged) → verdict_of content rows id ≡ judged → blocked_by content rows id judged ≡ Some blocked → IsHeldAt id blocked
    go (good plan) v e = absurd (cc e)
    go lack v e = absurd (cc e)
    go (held need) v e =
        let P : BlockedNeed → Type 0 = λ b. IsHeldAt id b in
        let same : record { sysmod = id; need = need; giver = giver_of content rows need; published = is_published content need } ≡ blocked = (cc e) in
        subst P same (record { verdict = v; sysmod = refl; giver = refl; published = refl })

  pub record IsNextAt (id next : List ℕ) : Type 0 where
    pub blocked : BlockedNeed
    pub is : blocked_at content rows id ≡ Some blocked
    pub giver : blocked.giver ≡ Some next

  pub next_at : (id next : List ℕ) → next_of content rows id ≡ Some next → IsNextAt id next
  next_at id next e = go (blocked_at content rows id) refl e where
    go : (o : Option BlockedNeed) → blocked_at content rows id ≡ o → next_by o ≡ Some next → IsNextAt id next
    go None is e = absurd (cc e)
    go (Some blocked) is e = record { blocked = blocked; is = is; giver = e }

  -- what is held is a candidate, and no good one gives its need
  record IsHeldRight (id need : List ℕ) : Type 0 where
    candidate : is_candidate content rows id ≡ true
    ungiven : (giver : List ℕ) → ¬ IsGoodGiver (world_of content rows) need giver

  held_right : (id need : List ℕ) → verdict_of content rows id ≡ held need → IsHeldRight id need
  held_right id need e = go (verdict_of content rows id) e (found_verdict content rows id) where
    go : (judged : Judged) → judged ≡ held need → IsVerdict content rows id judged → IsHeldRight id need
    go (good plan) e verdict = absurd (cc e)
    go lack e verdict = absurd (cc e)
    go (held other) e verdict =
        let same : other ≡ need = (cc e) in
        let P : List ℕ → Type 0 = λ n. IsHeldRight id n in
        subst P same (record { candidate = verdict.candidate; ungiven = verdict.blocked.holds.ungiven })

  -- one from which another is come to is catalogued
  catalogued : (id next : List ℕ) → next_of content rows id ≡ Some next → Contains (ids_of content) id
  catalogued id next e =
      let at = next_at id next e in
      (kept_from (is_candidate content rows) (ids_of content) id
      (candidate_inside content rows id (held_right id at.blocked.need (held_at id at.blocked at.is).verdict).candidate)).member

  -- ---- so many steps

  in_list : {X : Type 0} (xs : List X) (x : X) → Contains xs x → In xs x
  in_list [] x h = absurd (none_inside x h)
  in_list (y ∷ ys) x h = elim (inside_cases y x ys h) [ inl same ↦ inl same | inr later ↦ inr (in_list ys x later) ]

  sources : (from : List ℕ) (list : List (List ℕ)) (to : List ℕ) → IsPath (IsNext content rows) from list to → AllSources (In (ids_of content)) from list
  sources from [] to path = tt
  sources from (next ∷ later) to path = (in_list (ids_of content) from (catalogued from next path.0.is), sources next later to path.1)

  next_inside : (n : ℕ) (from next to : List ℕ) → next_of content rows from ≡ Some next → Contains (waits_within content rows n next) to
      → Contains (flat_map (waits_within content rows n) (cons_option (next_of content rows from) [])) to
  next_inside n from next to e inside =
      let P : Option (List ℕ) → Type 0 = λ o. Contains (flat_map (waits_within content rows n) (cons_option o [])) to in
      subst P (sym e) (Contains-append_left (waits_within content rows n next) [] to inside)

  path_inside : (n : ℕ) (from : List ℕ) (list : List (List ℕ)) (to : List ℕ) → IsPath (IsNext content rows) from list to → length list ≤ n → Contains (waits_within content rows n from) to
  path_inside zero from [] to same short = (let P : List ℕ → Type 0 = λ x. Contains (from ∷ []) x in subst P same (first_inside from []))
  path_inside zero from (next ∷ later) to path short = absurd (omega (arith, short))
  path_inside (suc n) from [] to same short =
      (let rest = flat_map (waits_within content rows n) (cons_option (next_of content rows from) []) in
      let P : List ℕ → Type 0 = λ x. Contains (from ∷ rest) x in subst P same (first_inside from rest))
  path_inside (suc n) from (next ∷ later) to path short =
      rest_inside from to (flat_map (waits_within content rows n) (cons_option (next_of content rows from) []))
      (next_inside n from next to path.0.is (path_inside n next later to path.1 (omega (arith, short))))

  -- what is come to is come to in as many steps as there are records
  pub come_inside : (from to : List ℕ) → Leads (IsNext content rows) from to → Contains (waits_within content rows (length content.sysmods) from) to
  come_inside from to leads =
      let short =
      shorten (IsNext content rows) (IsPath (IsNext content rows)) (λ from next later to path. path) (λ from next later to path. path) (length (ids_of content)) (ids_of content) (omega arith)
      from leads.list to leads.path (sources from leads.list to leads.path) in
      let same : length (ids_of content) ≡ length content.sysmods = length-map content.sysmods (λ (sysmod : Sysmod). sysmod.id) in
      path_inside (length content.sysmods) from short.list to short.path (let few = short.short in omega (arith, few, same))

  -- and what is come to in any number of steps stands in each list that is closed
  pub inside_closed : (ids : List (List ℕ)) → ((id next : List ℕ) → Contains ids id → next_of content rows id ≡ Some next → Contains ids next)
      → (n : ℕ) (from to : List ℕ) → Contains ids from → Contains (waits_within content rows n from) to → Contains ids to
  inside_closed ids closed zero from to inside come = elim (inside_cases from to [] come) [
    | inl same ↦ (let P : List ℕ → Type 0 = λ x. Contains ids x in subst P same inside)
    | inr none ↦ absurd (none_inside to none)
  ]
  inside_closed ids closed (suc n) from to inside come = elim (inside_cases from to (flat_map (waits_within content rows n) (cons_option (next_of content rows from) [])) come) [
    | inl same ↦ (let P : List ℕ → Type 0 = λ x. Contains ids x in subst P same inside)
    | inr later ↦ go (λ (next : List ℕ) (here : Contains ids next) (own : Contains (waits_within content rows n next) to). inside_closed ids closed n next to here own) (next_of content rows from) refl later
  ] where
    go : ((next : List ℕ) → Contains ids next → Contains (waits_within content rows n next) to → Contains ids to) → (o : Option (List ℕ)) → next_of content rows from ≡ o
        → Contains (flat_map (waits_within content rows n) (cons_option o [])) to → Contains ids to
    go further None e none = absurd (none_inside to none)
    go further (Some next) e later = elim (Contains-append_cases (waits_within content rows n next) [] to later) [
      | inl own ↦ further next (closed from next inside e) own
      | inr none ↦ absurd (none_inside to none)
    ]

  -- ---- what was looked at so far, in the midst of following one

  pub record ArePartlySeen (starts : List (List ℕ)) (start : List ℕ) (entries : List (List ℕ × Option BlockedNeed)) (open_one : Option (List ℕ)) : Type 0 where
    pub ids : List (List ℕ)
    pub ascend : Ascend ids
    pub are : entries ≡ map (entry_of content rows) ids
    pub begun : (id : List ℕ) → Contains starts id → Contains ids id
    pub first : Contains ids start ⊎ (open_one ≡ Some start)
    pub closed : (id next : List ℕ) → Contains ids id → next_of content rows id ≡ Some next → Contains ids next ⊎ (open_one ≡ Some next)
    pub come_to : (id : List ℕ) → Contains ids id → IsComeTo content rows (starts ++ start ∷ []) id
    pub open_come : (id : List ℕ) → open_one ≡ Some id → Leads (IsNext content rows) start id

  more_come : (starts : List (List ℕ)) (start id : List ℕ) → IsComeTo content rows starts id → IsComeTo content rows (starts ++ start ∷ []) id
  more_come starts start id come = record { start = come.start; listed = Contains-append_left starts (start ∷ []) come.start come.listed; leads = come.leads }

  pub partly_begun : (starts : List (List ℕ)) (start : List ℕ) (entries : List (List ℕ × Option BlockedNeed)) → AreSeen content rows starts entries → ArePartlySeen starts start entries (Some start)
  partly_begun starts start entries seen = record {
    ids = seen.ids;
    ascend = seen.ascend;
    are = seen.are;
    begun = seen.begun;
    first = inr refl;
    closed = λ id next inside e. inl (seen.closed id next inside e);
    come_to = λ id inside. more_come starts start id (seen.come_to id inside);
    open_come = λ id e. (let same : start ≡ id = (cc e) in let P : List ℕ → Type 0 = λ x. Leads (IsNext content rows) start x in subst P same (leads_itself (IsNext content rows) start));
  }

  -- the one that is open was looked at, or there is none
  whole_seen : (starts : List (List ℕ)) (start : List ℕ) (entries : List (List ℕ × Option BlockedNeed)) (open_one : Option (List ℕ)) → (so_far : ArePartlySeen starts start entries open_one)
      → ((id : List ℕ) → open_one ≡ Some id → Contains so_far.ids id) → AreSeen content rows (starts ++ start ∷ []) entries
  whole_seen starts start entries open_one so_far is = record {
    ids = so_far.ids;
    ascend = so_far.ascend;
    are = so_far.are;
    begun = λ id inside. elim (Contains-append_cases starts (start ∷ []) id inside) [
      | inl before ↦ so_far.begun id before
      | inr own ↦ (elim (inside_cases start id [] own) [
        | inl same ↦ (let P : List ℕ → Type 0 = λ x. Contains so_far.ids x in subst P same (elim so_far.first [ inl inside ↦ inside | inr e ↦ is start e ]))
        | inr none ↦ absurd (none_inside id none)
      ])
    ];
    closed = λ id next inside e. elim (so_far.closed id next inside e) [ inl inside ↦ inside | inr open_is ↦ is next open_is ];
    come_to = so_far.come_to;
  }

  pub seen_none : (starts : List (List ℕ)) (start : List ℕ) (entries : List (List ℕ × Option BlockedNeed)) (open_one : Option (List ℕ)) → open_one ≡ None → ArePartlySeen starts start entries open_one
      → AreSeen content rows (starts ++ start ∷ []) entries
  seen_none starts start entries open_one none so_far = whole_seen starts start entries open_one so_far (λ id e. absurd (let f : None ≡ Some id = sym none ∙ e in cc f))

  pub seen_again : (starts : List (List ℕ)) (start : List ℕ) (entries : List (List ℕ × Option BlockedNeed)) (open_one : Option (List ℕ)) (id : List ℕ) → open_one ≡ Some id → ArePartlySeen starts start entries open_one
      → is_some (lookup (is_at (id_cmp id)) entries) ≡ true → AreSeen content rows (starts ++ start ∷ []) entries
  seen_again starts start entries open_one id is so_far found =
      let E : List (List ℕ × Option BlockedNeed) → Type 0 = λ l. is_some (lookup (is_at (id_cmp id)) l) ≡ true in
      let inside = entry_inside (blocked_at content rows) so_far.ids id (subst E so_far.are found) in
      whole_seen starts start entries open_one so_far (λ other e. (let both : Some id ≡ Some other = sym is ∙ e in let same : id ≡ other = (cc both) in let P : List ℕ → Type 0 = λ x. Contains so_far.ids x in subst P same inside))

  -- one more was looked at
  pub seen_more : (starts : List (List ℕ)) (start : List ℕ) (old new : List (List ℕ × Option BlockedNeed)) (open_one : Option (List ℕ)) (id : List ℕ) (blocked : Option BlockedNeed) (next : Option (List ℕ))
      → open_one ≡ Some id → ArePartlySeen starts start old open_one → blocked ≡ blocked_at content rows id → new ≡ insert_entry id_cmp old id blocked → next ≡ next_by blocked → ArePartlySeen starts start new next
  seen_more starts start old new open_one id blocked next opened was is now on = record {
    ids = insert_key id_cmp was.ids id;
    ascend = insert_ascends was.ids id was.ascend;
    are = now ∙ ap (λ l. insert_entry id_cmp l id blocked) was.are ∙ ap (insert_entry id_cmp (map (entry_of content rows) was.ids) id) is ∙ put_entry (blocked_at content rows) was.ids id;
    begun = λ other inside. put_rest was.ids id other (was.begun other inside);
    first = elim was.first [
      | inl inside ↦ inl (put_rest was.ids id start inside)
      | inr e ↦ inl (let both : Some id ≡ Some start = sym opened ∙ e in let same : id ≡ start = (cc both) in let P : List ℕ → Type 0 = λ x. Contains (insert_key id_cmp was.ids id) x in subst P same (put_first was.ids id))
    ];
    closed = λ other after inside e. elim (put_from was.ids id other inside) [
      | inl same ↦ inr (let P : List ℕ → Type 0 = λ x. next_of content rows x ≡ Some after in on ∙ ap next_by is ∙ subst P (sym same) e)
      | inr before ↦ (elim (was.closed other after before e) [
        | inl there ↦ inl (put_rest was.ids id after there)
        | inr open_is ↦ inl (let both : Some id ≡ Some after = sym opened ∙ open_is in let same : id ≡ after = (cc both) in let P : List ℕ → Type 0 = λ x. Contains (insert_key id_cmp was.ids id) x in subst P same (put_first was.ids id))
      ])
    ];
    come_to = λ other inside. elim (put_from was.ids id other inside) [
      | inl same ↦ (let P : List ℕ → Type 0 = λ x. IsComeTo content rows (starts ++ start ∷ []) x in
          subst P same (record { start = start; listed = Contains-append_right starts (start ∷ []) start (first_inside start []); leads = was.open_come id opened }))
      | inr before ↦ was.come_to other before
    ];
    open_come = λ after e. leads_more (was.open_come id opened) (record { is = sym (on ∙ ap next_by is) ∙ e });
  }

  pub seen_nothing : (entries : List (List ℕ × Option BlockedNeed)) → entries ≡ [] → AreSeen content rows [] entries
  unfolding IsStrictlySortedBy
  seen_nothing entries none = record {
    ids = [];
    ascend = tt;
    are = none;
    begun = λ id inside. absurd (none_inside id inside);
    closed = λ id next inside e. absurd (none_inside id inside);
    come_to = λ id inside. absurd (none_inside id inside);
  }

  -- ---- the table

  module _ (sysmods : List (List ℕ)) (entries : List (List ℕ × Option BlockedNeed)) (seen : AreSeen content rows sysmods entries) where
    all_come : List (List ℕ)
    all_come = flat_map (waits_within content rows (length content.sysmods)) sysmods

    ids_are : seen.ids ≡ in_order all_come
    unfolding all_come
    ids_are =
        ascending_same seen.ids (in_order all_come) seen.ascend (in_order_ascends all_come)
        (λ id inside. (let come = seen.come_to id inside in
        (in_order_has all_come id).1 (flat_inside (waits_within content rows (length content.sysmods)) sysmods come.start id come.listed (come_inside come.start id come.leads))))
        (λ id inside. (let from = flat_from (waits_within content rows (length content.sysmods)) sysmods id ((in_order_has all_come id).0 inside) in
        inside_closed seen.ids seen.closed (length content.sysmods) from.from id (seen.begun from.from from.listed) from.has))

    rows_are : filter_map (λ entry. entry.1) entries ≡ filter_map (blocked_at content rows) seen.ids
    rows_are = ap (filter_map (λ entry. entry.1)) seen.are ∙ filter_map_map (entry_of content rows) (λ entry. entry.1) seen.ids

    has_row : (id : List ℕ) (blocked : BlockedNeed) → Contains seen.ids id → blocked_at content rows id ≡ Some blocked → HasRow (filter_map (blocked_at content rows) seen.ids) id
    has_row id blocked inside e = record { one = blocked; listed = map_found (blocked_at content rows) seen.ids id blocked inside e; is = (held_at id blocked e).sysmod }

    right_row : (one : BlockedNeed) → Contains (filter_map (blocked_at content rows) seen.ids) one → IsRightRow content rows one
    right_row one inside =
        let made = made_from (blocked_at content rows) seen.ids one inside in
        let at = held_at made.from one made.is in
        let V : List ℕ → Type 0 = λ x. verdict_of content rows x ≡ held one.need in
        record { blocks = subst V (sym at.sysmod) at.verdict; giver = at.giver; published = at.published; ungiven = (held_right made.from one.need at.verdict).ungiven }

    held_row : (id : List ℕ) → Contains seen.ids id → status_of (verdict_of content rows id) ≡ status.Held → HasRow (filter_map (blocked_at content rows) seen.ids) id
    held_row id inside e = go (verdict_of content rows id) refl e where
      go : (judged : Judged) → verdict_of content rows id ≡ judged → status_of judged ≡ status.Held → HasRow (filter_map (blocked_at content rows) seen.ids) id
      go (good plan) v e = absurd (cc e)
      go lack v e = absurd (cc e)
      go (held need) v e = has_row id (record { sysmod = id; need = need; giver = giver_of content rows need; published = is_published content need }) inside (ap (blocked_by content rows id) v)

    -- a candidate that gives what blocks another is held
    giver_held : (need giver : List ℕ) → ((one : List ℕ) → ¬ IsGoodGiver (world_of content rows) need one) → is_candidate content rows giver ≡ true → Gives content giver need → status_of (verdict_of content rows giver) ≡ status.Held
    giver_held need giver ungiven candidate gives = go (verdict_of content rows giver) (found_verdict content rows giver) where
      go : (judged : Judged) → IsVerdict content rows giver judged → status_of judged ≡ status.Held
      go (good plan) verdict = absurd (ungiven giver (record { good = verdict.0.good; gives = gives }))
      go (held other) verdict = refl
      go lack none = absurd (none candidate)

    followed_row : (one : BlockedNeed) (giver : List ℕ) → Contains (filter_map (blocked_at content rows) seen.ids) one → one.giver ≡ Some giver → HasRow (filter_map (blocked_at content rows) seen.ids) giver
    followed_row one giver inside e =
        let made = made_from (blocked_at content rows) seen.ids one inside in
        let at = held_at made.from one made.is in
        let found : find (is_candidate content rows) (givers_of content one.need) ≡ Some giver = sym at.giver ∙ e in
        let kept = kept_from (λ other. gives content other one.need) (ids_of content) giver (find_inside (is_candidate content rows) (givers_of content one.need) giver found) in
        let next : next_of content rows made.from ≡ Some giver = ap next_by made.is ∙ e in
        held_row giver (seen.closed made.from giver made.member next)
        (giver_held one.need giver (held_right made.from one.need at.verdict).ungiven (find_some (is_candidate content rows) (givers_of content one.need) giver found).passes ((gives_is content giver one.need).0 kept.passes))

    pub are_blocked_needs : (found : List BlockedNeed) → found ≡ filter_map (λ entry. entry.1) entries → AreBlockedNeeds content rows sysmods found
    unfolding all_come
    are_blocked_needs found is =
        let P : List BlockedNeed → Type 0 = λ l. AreBlockedNeeds content rows sysmods l in
        subst P (sym (is ∙ rows_are)) (record {
          are = ap (filter_map (blocked_at content rows)) ids_are;
          right = right_row;
          begun = λ id inside e. held_row id (seen.begun id inside) e;
          followed = followed_row;
        })
