-- The members of a plan, by index and by id.
use Rattle.std.proofs.Common.{◌≡◌, ◌∙◌, ◌<◌, ◌⊎◌, ◌&&◌, ℕ, List, [], ◌∷◌, ◌++◌, Bool, true, false, length, get_or, map, refl, sym, ap, subst, inl, inr, arith}
use Rattle.std.specs.Prelude.{not}
use Rattle.std.specs.List.{Contains, filter, list_any}
use Rattle.std.proofs.lemmas.List.FromFn.{get_or-map-range_with_len}
use Rattle.std.proofs.lemmas.Bool.{cases_lt, and_from}
use Rattle.std.proofs.lemmas.List.{get_or_past, length-map, map-append, get_or-map}
use Rattle.lemmas.proofs.ListFacts.{any_at, any_from, first_inside, first_true, flat_from, flat_inside, map_from, map_inside, none_inside, rest_inside, second_true}
use Rattle.zone_lists.specs.declared.zones.ZoneRow.{ZoneRow}
use Rattle.catalogue.specs.Content.{Content}
use Rattle.catalogue.specs.Ids.{Ascend}
use Rattle.supersede.specs.Giving.{gives, givers_of, is_candidate, is_there, needs_in}
use Rattle.supersede.specs.Leading.{Gives, IsThere}
use Rattle.supersede.proofs.LeadingFacts.{gives_is, there_is}
use Rattle.requisites.specs.Leads.{Leads}
use Rattle.requisites.specs.Nodes.{IsMarked, Links, mark_of, row}
use Rattle.requisites.specs.World.{IsGivenIn, IsPlan}
use Rattle.requisites.proofs.LeadsFacts.{leads_closed, leads_itself, leads_more}
use Rattle.requisites.proofs.SourceFacts.{marked_inside}
use Rattle.install_order.specs.Left.{AreGivers, AreLeft, is_outdone, left_in}
use Rattle.install_order.specs.Steps.{AreInOrder, AreNext, AreSteps, IsClosed, IsNext, StandsIn}
use Rattle.install_order.proofs.PutFacts.{stands_before, stands_cases}
use Rattle.install_order.proofs.RingFacts.{leads_joined}
use Rattle.verdicts.specs.Candidates.{candidates_unless_there}
use Rattle.verdicts.specs.Indices.{id_at, AreIndicesOf, RowsAre}
use Rattle.verdicts.specs.Judge.{status_of}
use Rattle.verdicts.specs.Verdicts.{verdict_of}
use Rattle.verdicts.specs.Worlds.{world_of}
use Rattle.verdicts.specs.declared.verdict.Status.TheVariants as status
use Rattle.verdicts.specs.United.{united}
use Rattle.verdicts.proofs.IndexFacts.{index_is, at_inside, inside_at}
use Rattle.zone_plans.specs.Findings.{known_givers}
use Rattle.zone_plans.specs.Graphs.{AreGiven, AreReachedFrom, AreStartsOf, ids_of_steps, list_at, needs_at}
use Rattle.zone_plans.specs.Readings.{ReadingLists, reading_of}
use Rattle.zone_plans.specs.Members.{AreStepsAfter, AreZoneSteps, HasCause, IsGivenBy, IsPlanned, NeedsMember, joined, needs_id, outdoes}
use Rattle.zone_plans.proofs.OutdoneFacts.{outdone_is}
use Rattle.zone_plans.proofs.ValueFacts.{ByIndex, steps_are}
use Rattle.zone_plans.proofs.PlannedFacts.{answer_for, answer_has, answer_says, chosen_in_united, gives_itself, gives_joined, known_has, known_says, member_candidate, need_given, planned}

-- ---- steps by id

-- an index stands in a step where its id stands in the ids of the steps
pub joined_inside : (ids : List (List ℕ)) (steps : List (List ℕ)) (p : ℕ) → StandsIn steps p → Contains (joined (ids_of_steps ids steps)) (id_at ids p)
joined_inside ids steps p stands =
    flat_inside (λ (s : List (List ℕ)). s) (ids_of_steps ids steps) (map (id_at ids) stands.step) (id_at ids p)
    (map_inside (λ (s : List ℕ). map (id_at ids) s) steps stands.step stands.listed)
    (map_inside (id_at ids) stands.step p stands.member)

pub record StandsAs (ids : List (List ℕ)) (steps : List (List ℕ)) (id : List ℕ) : Type 0 where
  pub index : ℕ
  pub stands : StandsIn steps index
  pub is : id_at ids index ≡ id

pub joined_from : (ids : List (List ℕ)) (steps : List (List ℕ)) (id : List ℕ) → Contains (joined (ids_of_steps ids steps)) id → StandsAs ids steps id
joined_from ids steps id inside =
    let from = flat_from (λ (s : List (List ℕ)). s) (ids_of_steps ids steps) id inside in
    let step = map_from (λ (s : List ℕ). map (id_at ids) s) steps from.from from.listed in
    let P : List (List ℕ) → Type 0 = λ l. Contains l id in
    let at = map_from (id_at ids) step.from id (subst P (sym step.is) from.has) in
    record { index = at.from; stands = record { step = step.from; listed = step.member; member = at.member }; is = at.is }

module _ (content : Content) (rows : List ZoneRow) (chosen ids : List (List ℕ)) (readings : List ReadingLists) (lists : List (List (List ℕ))) (above : List (List ℕ)) (left : List Bool) (needs : List (List ℕ)) (starts members : List Bool) (steps : List (List ℕ))
    (ascend : Ascend ids)
    (are : ids ≡ united content rows chosen)
    (are_good : (id : List ℕ) → Contains chosen id → status_of (verdict_of content rows id) ≡ status.Good)
    (read : readings ≡ map (reading_of content rows) ids)
    (known : lists ≡ map (known_givers content rows) ids)
    (indexed : RowsAre (λ p indices. AreIndicesOf ids (list_at lists p) indices) (length lists) above)
    (left_are : AreGivers above (length ids) → AreLeft above (length ids) left)
    (given : AreGiven (candidates_unless_there content rows) ids left readings needs)
    (started : AreStartsOf ids above left chosen starts)
    (reached : AreReachedFrom needs starts members)
    (stepped : AreInOrder needs members steps)
    (marks : left ≡ left_in above (length ids))
    (valued : AreSteps needs members steps) where
  as_many : length readings ≡ length ids
  as_many = ap length read ∙ length-map ids (reading_of content rows)

  reading_at : (p : ℕ) (d : ReadingLists) → p < length ids → get_or readings p d ≡ reading_of content rows (id_at ids p)
  reading_at p d within = ap (λ (l : List ReadingLists). get_or l p d) read ∙ get_or-map (reading_of content rows) ids p [] d within

  -- what is read of a member, by its index
  needs_of : (p : ℕ) → p < length ids → needs_at readings p ≡ needs_in content rows (id_at ids p)
  needs_of p within =
      get_or-map (λ (r : ReadingLists). r.needs) readings p (reading_of content rows []) [] (omega (arith, within, as_many))
      ∙ ap (λ (r : ReadingLists). r.needs) (reading_at p (reading_of content rows []) within)

  in_all : (p : ℕ) → p < length ids → Contains (united content rows chosen) (id_at ids p)
  in_all p within = let P : List (List ℕ) → Type 0 = λ l. Contains l (id_at ids p) in subst P are (at_inside ids p within)

  candidate_at : (p : ℕ) → p < length ids → is_candidate content rows (id_at ids p) ≡ true
  candidate_at p within = member_candidate content rows chosen are_good (id_at ids p) (in_all p within)

  -- ---- what gives a member

  lists_len : length lists ≡ length ids
  lists_len = ap length known ∙ length-map ids (known_givers content rows)

  list_is : (p : ℕ) → p < length ids → list_at lists p ≡ known_givers content rows (id_at ids p)
  list_is p within = ap (λ (l : List (List (List ℕ))). get_or l p []) known ∙ get_or-map (known_givers content rows) ids p [] [] within

  row_inside : (p q : ℕ) → Contains (row above p) q → p < length ids
  row_inside p q listed = elim (cases_lt p (length ids)) [
    | inl within ↦ within
    | inr past ↦
        (let none : row above p ≡ [] = get_or_past above p [] (omega (arith, indexed.len, lists_len)) in
        let P : List ℕ → Type 0 = λ l. Contains l q in
        absurd (none_inside q (subst P none listed)))
  ]

  given_at : (p q : ℕ) → Contains (row above p) q → Gives content (id_at ids q) (id_at ids p)
  given_at p q listed =
      let within = row_inside p q listed in
      let P : List (List ℕ) → Type 0 = λ l. Contains l (id_at ids q) in
      known_says content rows (id_at ids p) (id_at ids q) (subst P (list_is p within) ((indexed.each p (omega (arith, within, lists_len))).listed q listed))

  at_given : (p q : ℕ) → p < length ids → q < length ids → Gives content (id_at ids q) (id_at ids p) → Contains (row above p) q
  at_given p q within inside gives =
      let P : List (List ℕ) → Type 0 = λ l. Contains l (id_at ids q) in
      (indexed.each p (omega (arith, within, lists_len))).whole q inside (subst P (sym (list_is p within)) (known_has content rows (id_at ids p) (id_at ids q) (candidate_at q inside) gives))

  are_givers : AreGivers above (length ids)
  are_givers = record {
    within = λ p q listed. (let inside = row_inside p q listed in (indexed.each p (omega (arith, inside, lists_len))).within q listed);
    on = λ p q r first second.
        let r_inside = (let inside = row_inside q r second in (indexed.each q (omega (arith, inside, lists_len))).within r second) in
        at_given p r (row_inside p q first) r_inside (gives_joined content (id_at ids r) (id_at ids q) (id_at ids p) (given_at q r second) (given_at p q first));
  }

  are_left : AreLeft above (length ids) left
  are_left = left_are are_givers

  gives_above : (p q : ℕ) (need : List ℕ) → Leads (Links above (length ids)) p q → Gives content (id_at ids p) need → Gives content (id_at ids q) need
  gives_above p q need leads gives =
      leads_closed (λ k. Gives content (id_at ids k) need)
      (λ u v here link. gives_joined content (id_at ids v) (id_at ids u) need (given_at u v link.listed) here)
      gives leads

  -- ---- needs

  left_inside : (p : ℕ) → IsMarked left p → p < length ids
  left_inside p marked = omega (arith, marked_inside left p marked, are_left.len)

  -- a member that is left and gives a need of another
  pub record IsLeftGiver (p : ℕ) (need : List ℕ) : Type 0 where
    pub index : ℕ
    pub listed : Contains (row needs p) index
    pub within : index < length ids
    pub marked : IsMarked left index
    pub gives : Gives content (id_at ids index) need

  need_left : (p : ℕ) (need : List ℕ) → p < length ids → Contains (needs_in content rows (id_at ids p)) need → (IsThere content rows need → ⊥) → IsLeftGiver p need
  need_left p need within needed absent =
      let giver = need_given content rows chosen are_good (id_at ids p) need (in_all p within) needed absent in
      let P : List (List ℕ) → Type 0 = λ l. Contains l giver.giver in
      let at = inside_at ids giver.giver (subst P (sym are) giver.listed) in
      let stands = are_left.stands_in at.index at.within in
      let G : List ℕ → Type 0 = λ g. Gives content g need in
      let gives = gives_above at.index stands.stand_in need stands.leads (subst G (sym at.is) giver.gives) in
      let inside = left_inside stands.stand_in stands.marked in
      let N : List (List ℕ) → Type 0 = λ l. Contains l need in
      record {
        index = stands.stand_in;
        listed = (given.each p (omega (arith, within, as_many))).whole stands.stand_in (record {
          need = need;
          needed = subst N (sym (needs_of p within)) needed;
          givers = filter (λ giver. is_candidate content rows giver) (givers_of content need);
          answer = answer_for content rows need absent;
          gives = record { within = inside; marked = stands.marked; listed = answer_has content rows need (id_at ids stands.stand_in) (candidate_at stands.stand_in inside) gives };
        });
        within = inside;
        marked = stands.marked;
        gives = gives;
      }

  -- a link as a need
  pub record IsNeedLink (p q : ℕ) : Type 0 where
    pub need : List ℕ
    pub needed : Contains (needs_in content rows (id_at ids p)) need
    pub absent : IsThere content rows need → ⊥
    pub marked : IsMarked left q
    pub gives : Gives content (id_at ids q) need

  need_link : (p q : ℕ) → p < length ids → Contains (row needs p) q → IsNeedLink p q
  need_link p q within listed =
      let is = (given.each p (omega (arith, within, as_many))).given q listed in
      let says = answer_says content rows is.need is.givers is.answer in
      let N : List (List ℕ) → Type 0 = λ l. Contains l is.need in
      record {
        need = is.need;
        needed = subst N (needs_of p within) is.needed;
        absent = says.absent;
        marked = is.gives.marked;
        gives = says.each (id_at ids q) is.gives.listed;
      }

  -- ---- members

  start_inside : (p : ℕ) → IsMarked starts p → p < length ids
  start_inside p marked = omega (arith, marked_inside starts p marked, started.len)

  members_len : length members ≡ length ids
  members_len = reached.len ∙ started.len

  member_inside : (p : ℕ) → IsMarked members p → p < length ids
  member_inside p marked = omega (arith, marked_inside members p marked, members_len)

  member_left : (p : ℕ) → IsMarked members p → IsMarked left p
  member_left p marked =
      let from = reached.marked p marked in
      leads_closed (λ k. IsMarked left k) (λ u v here link. (need_link u v (left_inside u here) link.listed).marked)
      (started.marked from.start from.marked).marked from.leads

  in_members : (p q : ℕ) → Leads (Links needs (length members)) p q → Leads (Links needs (length starts)) p q
  in_members p q leads = let P : ℕ → Type 0 = λ k. Leads (Links needs k) p q in subst P reached.len leads

  out_members : (p q : ℕ) → Leads (Links needs (length starts)) p q → Leads (Links needs (length members)) p q
  out_members p q leads = let P : ℕ → Type 0 = λ k. Leads (Links needs k) p q in subst P (sym reached.len) leads

  pub start_member : (p : ℕ) → IsMarked starts p → IsMarked members p
  start_member p marked = reached.whole p (record { start = p; marked = marked; leads = leads_itself (Links needs (length starts)) p })

  pub members_closed : IsClosed needs members
  members_closed = λ p q marked link.
      let from = reached.marked p marked in
      let index = link.index in
      reached.whole q (record { start = from.start; marked = from.marked; leads = leads_more from.leads (record { listed = link.listed; index = omega (arith, index, reached.len) }) })

  in_steps : (p : ℕ) → IsMarked members p → Contains (joined (ids_of_steps ids steps)) (id_at ids p)
  in_steps p marked = joined_inside ids steps p (stepped.whole p marked)

  needs_member : (p q : ℕ) → IsMarked members p → Links needs (length members) p q → NeedsMember content rows (joined (ids_of_steps ids steps)) (id_at ids p) (id_at ids q)
  needs_member p q marked link =
      let is = need_link p q (member_inside p marked) link.listed in
      record { need = is.need; needs = is.needed; absent = is.absent; listed = in_steps q (members_closed p q marked link); gives = is.gives }

  record IsLed (p q : ℕ) : Type 0 where
    marked : IsMarked members q
    leads : Leads (NeedsMember content rows (joined (ids_of_steps ids steps))) (id_at ids p) (id_at ids q)

  leads_by_id : (p q : ℕ) → IsMarked members p → Leads (Links needs (length members)) p q → Leads (NeedsMember content rows (joined (ids_of_steps ids steps))) (id_at ids p) (id_at ids q)
  leads_by_id p q marked leads =
      (leads_closed (λ k. IsLed p k)
      (λ u v here link. record { marked = members_closed u v here.marked link; leads = leads_more here.leads (needs_member u v here.marked link) })
      (record { marked = marked; leads = leads_itself (NeedsMember content rows (joined (ids_of_steps ids steps))) (id_at ids p) }) leads).leads

  same_index : (p q : ℕ) → p < length ids → q < length ids → id_at ids p ≡ id_at ids q → p ≡ q
  same_index p q first second same = index_is ids (id_at ids p) p q ascend (record { within = first; is = refl }) (record { within = second; is = sym same })

  -- the index of a member to which needs lead from one
  record IsLedTo (p : ℕ) (id : List ℕ) : Type 0 where
    index : ℕ
    is : id_at ids index ≡ id
    marked : IsMarked members index
    leads : Leads (Links needs (length members)) p index

  link_of : (p : ℕ) (id : List ℕ) → IsMarked members p → NeedsMember content rows (joined (ids_of_steps ids steps)) (id_at ids p) id → IsLedTo p id
  link_of p id marked needed =
      let at = joined_from ids steps id needed.listed in
      let q_marked = stepped.only at.index at.stands in
      let inside = member_inside at.index q_marked in
      let within = member_inside p marked in
      let N : List (List ℕ) → Type 0 = λ l. Contains l needed.need in
      let G : List ℕ → Type 0 = λ x. Gives content x needed.need in
      record {
        index = at.index;
        is = at.is;
        marked = q_marked;
        leads = leads_more (leads_itself (Links needs (length members)) p) (record {
          listed = (given.each p (omega (arith, within, as_many))).whole at.index (record {
            need = needed.need;
            needed = subst N (sym (needs_of p within)) needed.needs;
            givers = filter (λ giver. is_candidate content rows giver) (givers_of content needed.need);
            answer = answer_for content rows needed.need needed.absent;
            gives = record {
              within = inside;
              marked = member_left at.index q_marked;
              listed = answer_has content rows needed.need (id_at ids at.index) (candidate_at at.index inside) (subst G (sym at.is) needed.gives);
            };
          });
          index = omega (arith, inside, members_len);
        });
      }

  led_on : (p : ℕ) (u v : List ℕ) → IsLedTo p u → NeedsMember content rows (joined (ids_of_steps ids steps)) u v → IsLedTo p v
  led_on p u v here needed =
      let P : List ℕ → Type 0 = λ x. NeedsMember content rows (joined (ids_of_steps ids steps)) x v in
      let next = link_of here.index v here.marked (subst P (sym here.is) needed) in
      record { index = next.index; is = next.is; marked = next.marked; leads = leads_joined here.leads next.leads }

  leads_to : (p q : ℕ) → IsMarked members p → IsMarked members q → Leads (NeedsMember content rows (joined (ids_of_steps ids steps))) (id_at ids p) (id_at ids q) → Leads (Links needs (length members)) p q
  leads_to p q first second leads =
      let led : IsLedTo p (id_at ids q) =
      leads_closed (λ x. IsLedTo p x) (led_on p) (record { index = p; is = refl; marked = first; leads = leads_itself (Links needs (length members)) p }) leads in
      let same : led.index ≡ q = same_index led.index q (member_inside led.index led.marked) (member_inside q second) led.is in
      let P : ℕ → Type 0 = λ k. Leads (Links needs (length members)) p k in
      subst P same led.leads

  -- ---- plans

  -- steps are a plan where what a member of one needs stands in one
  is_plan : (some : List (List ℕ)) → ((p : ℕ) → StandsIn some p → IsMarked members p) → ((p q : ℕ) → StandsIn some p → Links needs (length members) p q → StandsIn some q) → IsPlan (world_of content rows) (joined (ids_of_steps ids some))
  is_plan some marked closed = record {
    candidates = λ y inside.
        let at = joined_from ids some y inside in
        let P : List ℕ → Type 0 = λ x. is_candidate content rows x ≡ true in
        subst P at.is (candidate_at at.index (member_inside at.index (marked at.index at.stands)));
    needs_met = λ y need inside needed.
        let at = joined_from ids some y inside in
        let N : List ℕ → Type 0 = λ x. Contains (needs_in content rows x) need in
        met at.index need at.stands (subst N (sym at.is) needed) (is_there content rows need) refl;
  } where
    met : (p : ℕ) (need : List ℕ) → StandsIn some p → Contains (needs_in content rows (id_at ids p)) need → (b : Bool) → is_there content rows need ≡ b → IsThere content rows need ⊎ IsGivenIn (world_of content rows) (joined (ids_of_steps ids some)) need
    met p need stands needed true on = inl ((there_is content rows need).0 on)
    met p need stands needed false off =
        let absent : IsThere content rows need → ⊥ = (λ there. let on : is_there content rows need ≡ true = (there_is content rows need).1 there in cc) in
        let giver = need_left p need (member_inside p (marked p stands)) needed absent in
        let index = giver.within in
        let link : Links needs (length members) p giver.index = record { listed = giver.listed; index = omega (arith, index, members_len) } in
        inr (record { giver = id_at ids giver.index; member = joined_inside ids some giver.index (closed p giver.index stands link); gives = giver.gives })

  -- ---- order

  joined_steps : (before : List (List ℕ)) (step : List ℕ) → ids_of_steps ids (before ++ step ∷ []) ≡ ids_of_steps ids before ++ map (id_at ids) step ∷ []
  joined_steps before step = map-append (λ (s : List ℕ). map (id_at ids) s) before (step ∷ [])

  order_by_id : (before some : List (List ℕ)) → ((p : ℕ) → StandsIn before p → IsMarked members p) → ((p : ℕ) → StandsIn some p → IsMarked members p) → ((p q : ℕ) → StandsIn before p → Links needs (length members) p q → StandsIn before q)
      → AreNext needs (length members) before some → AreStepsAfter content rows (joined (ids_of_steps ids steps)) (ids_of_steps ids before) (ids_of_steps ids some)
  order_by_id before [] marked are_marked closed order = tt
  order_by_id before (step ∷ later) marked are_marked closed order = (
    record {
      first = id_at ids next.first;
      begun = map_inside (id_at ids) step next.first next.begun;
      once = λ id inside stands.
          let at = map_from (id_at ids) step id inside in
          let other = joined_from ids before id stands in
          let same : at.from ≡ other.index = same_index at.from other.index (member_inside at.from (own_marked at.from at.member)) (member_inside other.index (marked other.index other.stands)) (at.is ∙ sym other.is) in
          let P : ℕ → Type 0 = λ k. StandsIn before k in
          next.once at.from at.member (subst P (sym same) other.stands);
      plan = (let P : List (List (List ℕ)) → Type 0 = λ l. IsPlan (world_of content rows) (joined l) in subst P (joined_steps before step) (is_plan (before ++ step ∷ []) still still_closed));
      back = λ a b first second leads.
          let p = map_from (id_at ids) step a first in
          let q = map_from (id_at ids) step b second in
          let A : List ℕ → Type 0 = λ x. Leads (NeedsMember content rows (joined (ids_of_steps ids steps))) x b in
          let B : List ℕ → Type 0 = λ x. Leads (NeedsMember content rows (joined (ids_of_steps ids steps))) (id_at ids p.from) x in
          let to = leads_to p.from q.from (own_marked p.from p.member) (own_marked q.from q.member) (subst B (sym q.is) (subst A (sym p.is) leads)) in
          let C : List ℕ → Type 0 = λ x. Leads (NeedsMember content rows (joined (ids_of_steps ids steps))) x a in
          let D : List ℕ → Type 0 = λ x. Leads (NeedsMember content rows (joined (ids_of_steps ids steps))) (id_at ids q.from) x in
          subst C q.is (subst D p.is (leads_by_id q.from p.from (own_marked q.from q.member) (next.back p.from q.from p.member q.member to)));
    },
    (let R : List (List (List ℕ)) → Type 0 = λ l. AreStepsAfter content rows (joined (ids_of_steps ids steps)) l (ids_of_steps ids later) in
        subst R (joined_steps before step) (order_by_id (before ++ step ∷ []) later still later_marked still_closed order.1)),
  ) where
    next : IsNext needs (length members) before step
    next = order.0

    stands_first : (p : ℕ) → Contains step p → StandsIn (step ∷ later) p
    stands_first p member = record { step = step; listed = first_inside step later; member = member }

    own_marked : (p : ℕ) → Contains step p → IsMarked members p
    own_marked p member = are_marked p (stands_first p member)

    later_marked : (p : ℕ) → StandsIn later p → IsMarked members p
    later_marked p stands = are_marked p (record { step = stands.step; listed = rest_inside step stands.step later stands.listed; member = stands.member })

    still : (p : ℕ) → StandsIn (before ++ step ∷ []) p → IsMarked members p
    still p stands = elim (stands_cases before step p stands) [
      | inl was ↦ marked p was
      | inr own ↦ own_marked p own
    ]

    still_closed : (p q : ℕ) → StandsIn (before ++ step ∷ []) p → Links needs (length members) p q → StandsIn (before ++ step ∷ []) q
    still_closed p q stands link = elim (stands_cases before step p stands) [
      | inl was ↦ stands_before before step q (closed p q was link)
      | inr own ↦ next.needed p q own link
    ]

  -- ---- all

  none_stands : (p : ℕ) → StandsIn [] p → ⊥
  none_stands p stands = omega (arith, stands.listed.1)

  -- the member that stands in for a chosen resolver
  resolved_by : (c : List ℕ) → Contains chosen c → IsGivenBy content (joined (ids_of_steps ids steps)) c
  resolved_by c listed =
      let P : List (List ℕ) → Type 0 = λ l. Contains l c in
      let at = inside_at ids c (subst P (sym are) (chosen_in_united content rows chosen are_good c listed)) in
      let stands = are_left.stands_in at.index at.within in
      let C : List ℕ → Type 0 = λ x. Contains chosen x in
      let member = start_member stands.stand_in (started.whole stands.stand_in (record { marked = stands.marked; resolver = at.index; within = at.within; is_chosen = subst C (sym at.is) listed; leads = stands.leads })) in
      let G : List ℕ → Type 0 = λ x. Gives content (id_at ids stands.stand_in) x in
      record {
        member = id_at ids stands.stand_in;
        listed = in_steps stands.stand_in member;
        gives = subst G at.is (gives_above at.index stands.stand_in (id_at ids at.index) stands.leads (gives_itself content rows (id_at ids at.index) (candidate_at at.index at.within)));
      }

  caused_by : (p : ℕ) → IsMarked members p → HasCause content rows chosen (joined (ids_of_steps ids steps)) (id_at ids p)
  caused_by p marked =
      let from = reached.marked p marked in
      let start = started.marked from.start from.marked in
      record {
        resolver = id_at ids start.resolver;
        is_chosen = start.is_chosen;
        first = record {
          member = id_at ids from.start;
          listed = in_steps from.start (start_member from.start from.marked);
          gives = gives_above start.resolver from.start (id_at ids start.resolver) start.leads (gives_itself content rows (id_at ids start.resolver) (candidate_at start.resolver start.within));
        };
        leads = leads_by_id from.start p (start_member from.start from.marked) (out_members from.start p from.leads);
      }

  -- ---- what is known by index

  left_is : (p : ℕ) → p < length ids → mark_of left p ≡ not (list_any (outdoes content (id_at ids p)) ids)
  left_is p within =
      ap (λ (l : List Bool). mark_of l p) marks
      ∙ get_or-map-range_with_len (λ p. not (is_outdone above p)) 0 (length ids) p p false within (omega arith)
      ∙ ap not (outdone_is content ids above ascend given_at at_given are_givers.within p within)

  absent_test : (need : List ℕ) → (IsThere content rows need → ⊥) → not (is_there content rows need) ≡ true
  absent_test need absent = go (is_there content rows need) refl where
    go : (b : Bool) → is_there content rows need ≡ b → not b ≡ true
    go true on = absurd (absent ((there_is content rows need).0 on))
    go false off = refl

  test_absent : (need : List ℕ) → not (is_there content rows need) ≡ true → IsThere content rows need → ⊥
  test_absent need h there = go (is_there content rows need) ((there_is content rows need).1 there) h where
    go : (b : Bool) → b ≡ true → not b ≡ true → ⊥
    go true on off = cc off
    go false on off = cc on

  linked : (p q : ℕ) → IsMarked left p → Links needs (length members) p q → IsMarked left q × (needs_id content rows (id_at ids p) (id_at ids q) ≡ true)
  linked p q marked link =
      let is = need_link p q (left_inside p marked) link.listed in (
        is.marked,
        any_at (λ (need : List ℕ). not (is_there content rows need) && gives content (id_at ids q) need) (needs_in content rows (id_at ids p)) is.need is.needed
            (and_from (not (is_there content rows is.need)) (gives content (id_at ids q) is.need) (absent_test is.need is.absent) ((gives_is content (id_at ids q) is.need).1 is.gives)),
      )

  link : (p q : ℕ) → IsMarked left p → IsMarked left q → needs_id content rows (id_at ids p) (id_at ids q) ≡ true → Links needs (length members) p q
  link p q marked other h =
      let found = any_from (λ (need : List ℕ). not (is_there content rows need) && gives content (id_at ids q) need) (needs_in content rows (id_at ids p)) h in
      let need = found.element in
      let absent = test_absent need (first_true (not (is_there content rows need)) (gives content (id_at ids q) need) found.passes) in
      let gave = (gives_is content (id_at ids q) need).0 (second_true (not (is_there content rows need)) (gives content (id_at ids q) need) found.passes) in
      let within = left_inside p marked in
      let inside = left_inside q other in
      let N : List (List ℕ) → Type 0 = λ l. Contains l need in
      record {
        listed = (given.each p (omega (arith, within, as_many))).whole q (record {
          need = need;
          needed = subst N (sym (needs_of p within)) found.member;
          givers = filter (λ giver. is_candidate content rows giver) (givers_of content need);
          answer = answer_for content rows need absent;
          gives = record { within = inside; marked = other; listed = answer_has content rows need (id_at ids q) (candidate_at q inside) gave };
        });
        index = omega (arith, inside, members_len);
      }

  start_of : (p : ℕ) → IsMarked left p → list_any (gives content (id_at ids p)) chosen ≡ true → IsMarked members p
  start_of p marked h =
      let found = any_from (gives content (id_at ids p)) chosen h in
      let P : List (List ℕ) → Type 0 = λ l. Contains l found.element in
      let at = inside_at ids found.element (subst P (sym are) (chosen_in_united content rows chosen are_good found.element found.member)) in
      let G : List ℕ → Type 0 = λ x. gives content (id_at ids p) x ≡ true in
      let gave = (gives_is content (id_at ids p) (id_at ids at.index)).0 (subst G (sym at.is) found.passes) in
      let inside = left_inside p marked in
      let C : List ℕ → Type 0 = λ x. Contains chosen x in
      start_member p (started.whole p (record {
        marked = marked;
        resolver = at.index;
        within = at.within;
        is_chosen = subst C (sym at.is) found.member;
        leads = leads_more (leads_itself (Links above (length ids)) at.index) (record { listed = at_given at.index p at.within inside gave; index = inside });
      }))

  caused : (p : ℕ) → IsMarked members p → (start : ℕ) × IsMarked left start × (list_any (gives content (id_at ids start)) chosen ≡ true) × Leads (Links needs (length members)) start p
  caused p marked =
      let from = reached.marked p marked in
      let start = started.marked from.start from.marked in
      let gave = gives_above start.resolver from.start (id_at ids start.resolver) start.leads (gives_itself content rows (id_at ids start.resolver) (candidate_at start.resolver start.within)) in (
        from.start,
        start.marked,
        any_at (gives content (id_at ids from.start)) chosen (id_at ids start.resolver) start.is_chosen ((gives_is content (id_at ids from.start) (id_at ids start.resolver)).1 gave),
        out_members from.start p from.leads,
      )

  pub by_index : ByIndex content rows chosen ids left needs members
  by_index = record {
    ascend = ascend;
    left_len = are_left.len;
    len = members_len;
    left_is = left_is;
    linked = linked;
    link = link;
    within = member_left;
    closed = members_closed;
    start = start_of;
    caused = caused;
  }

  pub are_zone_steps : AreZoneSteps content rows chosen (ids_of_steps ids steps)
  are_zone_steps = record {
    are = steps_are content rows chosen ids left needs members by_index steps are valued;
    order = order_by_id [] steps (λ p stands. absurd (none_stands p stands)) stepped.only (λ p q stands link. absurd (none_stands p stands)) stepped.order;
    plan = is_plan steps stepped.only (λ p q stands link. stepped.whole q (members_closed p q (stepped.only p stands) link));
    resolved = resolved_by;
    caused = λ id inside.
        let at = joined_from ids steps id inside in
        let P : List ℕ → Type 0 = λ x. HasCause content rows chosen (joined (ids_of_steps ids steps)) x in
        subst P at.is (caused_by at.index (stepped.only at.index at.stands));
    planned = λ id inside.
        let at = joined_from ids steps id inside in
        let P : List ℕ → Type 0 = λ x. IsPlanned content rows chosen x in
        subst P at.is (planned content rows chosen are_good (id_at ids at.index) (in_all at.index (member_inside at.index (stepped.only at.index at.stands))));
    alone = λ a b first second gives.
        let p = joined_from ids steps a first in
        let q = joined_from ids steps b second in
        let p_member = stepped.only p.index p.stands in
        let q_member = stepped.only q.index q.stands in
        let p_inside = member_inside p.index p_member in
        let q_inside = member_inside q.index q_member in
        let S : List ℕ → Type 0 = λ x. Gives content x a in
        let T : List ℕ → Type 0 = λ x. Gives content (id_at ids q.index) x in
        let turned = at_given p.index q.index p_inside q_inside (subst T (sym p.is) (subst S (sym q.is) gives)) in
        let same : q.index ≡ p.index = are_left.alone p.index q.index (member_left p.index p_member) (member_left q.index q_member) turned in
        sym q.is ∙ ap (id_at ids) same ∙ p.is;
  }
