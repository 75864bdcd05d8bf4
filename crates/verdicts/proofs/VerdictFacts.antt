-- The verdict that plain search finds is the one that plans, picks and blocked needs say, and the only one.
use Rattle.std.proofs.Common.{◌≡◌, ℕ, zero, suc, ◌≤◌, ◌&&◌, Bool, true, false, not, cond, List, [], ◌∷◌, length, Option, Some, None, refl, sym, ap, ◌∙◌, subst, inl, inr, arith}
use Rattle.std.specs.Prelude.{is_none}
use Rattle.std.specs.List.{Contains, filter_map, find, list_any}
use Rattle.std.proofs.lemmas.List.{length-map}
use Rattle.std.proofs.lemmas.List.Kept.{IsStrictlySortedBy-filter}
use Rattle.std.proofs.lemmas.Bool.{or_right, and_from, or_left, or_cases}
use Rattle.lemmas.proofs.ListFacts.{any_at, any_from, first_true, kept_from, kept_inside, made_from, map_found, second_true}
use Rattle.zone_lists.specs.declared.zones.ZoneRow.{ZoneRow}
use Rattle.zone_lists.proofs.EachFacts.{in_from_contains}
use Rattle.catalogue.specs.Content.{Content, ids_of}
use Rattle.catalogue.specs.Ids.{Ascend, id_cmp, in_order, same_id}
use Rattle.catalogue.proofs.IdFacts.{in_order_ascends, in_order_has, itself, one_id}
use Rattle.supersede.specs.Giving.{gives, is_candidate, is_there, needs_in}
use Rattle.supersede.specs.Leading.{IsThere}
use Rattle.supersede.proofs.GivingFacts.{In}
use Rattle.supersede.proofs.LeadingFacts.{gives_is, there_is}
use Rattle.supersede.proofs.PathFacts.{AllSources, shorten}
use Rattle.requisites.specs.Leads.{IsPath, Leads}
use Rattle.requisites.specs.World.{IsChosen, IsGood, IsGoodGiver, IsHeldFor, IsPick, PicksFor}
use Rattle.verdicts.specs.Verdicts.{Judged, blocked_need, chosen_plan, good, held, held_for, is_good, lack, open_needs, pick_for, picked_within, verdict_of}
use Rattle.verdicts.specs.Worlds.{IsVerdict, world_of}
use Rattle.verdicts.proofs.GoodFacts.{candidate_inside, good_found, good_from}
use Rattle.verdicts.proofs.StatusFacts.{candidate_gives, find_none, find_some, not_good, unblocked_good}
use Rattle.verdicts.proofs.OrderFacts.{ascending_same, at_most_same, find_inside, find_least}

-- ---- lists

module _ (content : Content) (rows : List ZoneRow) where
  -- ---- picks

  good_listed : (id : List ℕ) → IsGood (world_of content rows) id → Contains (ids_of content) id
  good_listed id is = (kept_from (is_candidate content rows) (ids_of content) id (candidate_inside content rows id (is.plan.candidates id is.member))).member

  pub giver_passes : (need z : List ℕ) → IsGoodGiver (world_of content rows) need z → (is_good content rows z && gives content z need) ≡ true
  giver_passes need z giver = and_from (is_good content rows z) (gives content z need) (good_found content rows z giver.good) ((gives_is content z need).1 giver.gives)

  pick_by : Bool → List ℕ → Option (List ℕ)
  pick_by b need = cond b (Some need) (find (λ id. is_good content rows id && gives content id need) (in_order (ids_of content)))

  pick_is : (need z : List ℕ) → pick_for content rows need ≡ Some z → IsPick (world_of content rows) need z
  pick_is need z e = go (is_good content rows need) refl e where
    go : (b : Bool) → is_good content rows need ≡ b → cond b (Some need) (find (λ id. is_good content rows id && gives content id need) (in_order (ids_of content))) ≡ Some z → IsPick (world_of content rows) need z
    go true on e = let same : need ≡ z = (cc) in inl (good_from content rows need on, sym same)
    go false off e =
        let passes = (find_some (λ id. is_good content rows id && gives content id need) (in_order (ids_of content)) z e).passes in
        inr (
          λ is. not_good content rows need off is,
          record {
            holds = record {
              good = good_from content rows z (first_true (is_good content rows z) (gives content z need) passes);
              gives = (gives_is content z need).0 (second_true (is_good content rows z) (gives content z need) passes);
            };
            least = λ y giver above.
                find_least (λ (id : List ℕ). is_good content rows id && gives content id need) (in_order (ids_of content)) z (in_order_ascends (ids_of content)) e y
                ((in_order_has (ids_of content) y).1 (good_listed y giver.good)) (giver_passes need y giver) above;
          },
        )

  no_giver : (need : List ℕ) → pick_for content rows need ≡ None → (z : List ℕ) → IsGoodGiver (world_of content rows) need z → ⊥
  no_giver need e z giver = go (is_good content rows need) e where
    go : (b : Bool) → cond b (Some need) (find (λ id. is_good content rows id && gives content id need) (in_order (ids_of content))) ≡ None → ⊥
    go true e = cc
    go false e =
        let off = find_none (λ (id : List ℕ). is_good content rows id && gives content id need) (in_order (ids_of content)) z e ((in_order_has (ids_of content) z).1 (good_listed z giver.good)) in
        let on = giver_passes need z giver in
        cc

  -- a pick is a good id that gives the need
  pub pick_gives : (need z : List ℕ) → IsPick (world_of content rows) need z → IsGoodGiver (world_of content rows) need z
  pick_gives need z pick = elim pick [
    | inl same ↦ (let P : List ℕ → Type 0 = λ x. IsGoodGiver (world_of content rows) need x in subst P (sym same.1) (record {
      good = same.0;
      gives = (gives_is content need need).0 (candidate_gives content rows need (same.0.plan.candidates need same.0.member));
    }))
    | inr least ↦ least.1.holds
  ]

  one_pick : (need a b : List ℕ) → IsPick (world_of content rows) need a → IsPick (world_of content rows) need b → a ≡ b
  one_pick need a b (inl first) (inl second) = first.1 ∙ sym second.1
  one_pick need a b (inl first) (inr second) = absurd (second.0 first.0)
  one_pick need a b (inr first) (inl second) = absurd (first.0 second.0)
  one_pick need a b (inr first) (inr second) = at_most_same a b (first.1.least b second.1.holds) (second.1.least a first.1.holds)

  pick_found : (need z : List ℕ) → IsPick (world_of content rows) need z → pick_for content rows need ≡ Some z
  pick_found need z pick = go (pick_for content rows need) refl where
    go : (o : Option (List ℕ)) → pick_for content rows need ≡ o → pick_for content rows need ≡ Some z
    go None e = absurd (no_giver need e z (pick_gives need z pick))
    go (Some y) e = e ∙ ap Some (one_pick need y z (pick_is need y e) pick)

  -- ---- what isn't there

  absent_open : (id need : List ℕ) → Contains (needs_in content rows id) need → (IsThere content rows need → ⊥) → Contains (open_needs content rows id) need
  absent_open id need needs absent = kept_inside (λ (r : List ℕ). not (is_there content rows r)) (needs_in content rows id) need needs (go (is_there content rows need) refl) where
    go : (b : Bool) → is_there content rows need ≡ b → not b ≡ true
    go true on = absurd (absent ((there_is content rows need).0 on))
    go false off = refl

  open_needed : (id need : List ℕ) → Contains (open_needs content rows id) need → Contains (needs_in content rows id) need
  open_needed id need inside = (kept_from (λ (r : List ℕ). not (is_there content rows r)) (needs_in content rows id) need inside).member

  open_absent : (id need : List ℕ) → Contains (open_needs content rows id) need → IsThere content rows need → ⊥
  open_absent id need inside there =
      let off = (kept_from (λ (r : List ℕ). not (is_there content rows r)) (needs_in content rows id) need inside).passes in
      let on : is_there content rows need ≡ true = (there_is content rows need).1 there in
      go (is_there content rows need) on off
    where
      go : (b : Bool) → b ≡ true → not b ≡ true → ⊥
      go true on off = cc
      go false on off = cc

  -- ---- chosen plans

  picks_found : (from next : List ℕ) → PicksFor (world_of content rows) from next → Contains (filter_map (pick_for content rows) (open_needs content rows from)) next
  picks_found from next step =
      map_found (pick_for content rows) (open_needs content rows from) step.need next (absent_open from step.need step.needs step.absent) (pick_found step.need next step.pick)

  picks_from : (from next : List ℕ) → Contains (filter_map (pick_for content rows) (open_needs content rows from)) next → PicksFor (world_of content rows) from next
  picks_from from next inside =
      let made = made_from (pick_for content rows) (open_needs content rows from) next inside in
      record {
        need = made.from;
        needs = open_needed from made.from made.member;
        absent = open_absent from made.from made.member;
        pick = pick_is made.from next made.is;
      }

  picked_is_good : (from next : List ℕ) → PicksFor (world_of content rows) from next → IsGood (world_of content rows) next
  picked_is_good from next step = (pick_gives step.need next step.pick).good

  path_from : (n : ℕ) (from to : List ℕ) → picked_within content rows n from to ≡ true → Leads (PicksFor (world_of content rows)) from to
  path_from zero from to h = record { list = []; path = one_id from to h }
  path_from (suc n) from to h =
      elim (or_cases (same_id from to) (list_any (λ next. picked_within content rows n next to) (filter_map (pick_for content rows) (open_needs content rows from))) h) [
        | inl same ↦ record { list = []; path = one_id from to same }
        | inr further ↦ (
            let next = any_from (λ next. picked_within content rows n next to) (filter_map (pick_for content rows) (open_needs content rows from)) further in
            let later = path_from n next.element to next.passes in
            record { list = next.element ∷ later.list; path = (picks_from from next.element next.member, later.path) })
      ]

  path_found : (n : ℕ) (from : List ℕ) (list : List (List ℕ)) (to : List ℕ) → IsPath (PicksFor (world_of content rows)) from list to → length list ≤ n → picked_within content rows n from to ≡ true
  path_found zero from [] to same short = (let P : List ℕ → Type 0 = λ x. same_id from x ≡ true in subst P same (itself from))
  path_found (suc n) from [] to same short =
      or_left (same_id from to) (list_any (λ next. picked_within content rows n next to) (filter_map (pick_for content rows) (open_needs content rows from)))
      (let P : List ℕ → Type 0 = λ x. same_id from x ≡ true in subst P same (itself from))
  path_found zero from (next ∷ later) to path short = absurd (omega (arith, short))
  path_found (suc n) from (next ∷ later) to path short =
      or_right (same_id from to) (list_any (λ next. picked_within content rows n next to) (filter_map (pick_for content rows) (open_needs content rows from)))
      (any_at (λ (next : List ℕ). picked_within content rows n next to) (filter_map (pick_for content rows) (open_needs content rows from)) next (picks_found from next path.0)
      (path_found n next later to path.1 (omega (arith, short))))

  sources_listed : (from : List ℕ) (list : List (List ℕ)) (to : List ℕ) → IsGood (world_of content rows) from → IsPath (PicksFor (world_of content rows)) from list to → AllSources (In (ids_of content)) from list
  sources_listed from [] to is path = tt
  sources_listed from (next ∷ later) to is path = (in_from_contains (ids_of content) from (good_listed from is), sources_listed next later to (picked_is_good from next path.0) path.1)

  path_good : (from : List ℕ) (list : List (List ℕ)) (to : List ℕ) → IsGood (world_of content rows) from → IsPath (PicksFor (world_of content rows)) from list to → IsGood (world_of content rows) to
  path_good from [] to is same = (let P : List ℕ → Type 0 = λ x. IsGood (world_of content rows) x in subst P same is)
  path_good from (next ∷ later) to is path = path_good next later to (picked_is_good from next path.0) path.1

  chosen_found : (id y : List ℕ) → IsGood (world_of content rows) id → IsChosen (world_of content rows) id y → Contains (chosen_plan content rows id) y
  chosen_found id y is leads =
      let listed = good_listed y (path_good id leads.list y is leads.path) in
      let short =
      shorten (PicksFor (world_of content rows)) (IsPath (PicksFor (world_of content rows))) (λ from next later to path. path) (λ from next later to path. path)
      (length (ids_of content)) (ids_of content) (omega arith) id leads.list y leads.path (sources_listed id leads.list y is leads.path) in
      let as_many : length (ids_of content) ≡ length content.sysmods = length-map content.sysmods (λ sysmod. sysmod.id) in
      let few = short.short in
      kept_inside (picked_within content rows (length content.sysmods) id) (in_order (ids_of content)) y ((in_order_has (ids_of content) y).1 listed)
      (path_found (length content.sysmods) id short.list y short.path (omega (arith, few, as_many)))

  chosen_from : (id y : List ℕ) → Contains (chosen_plan content rows id) y → IsChosen (world_of content rows) id y
  chosen_from id y inside = path_from (length content.sysmods) id y (kept_from (picked_within content rows (length content.sysmods) id) (in_order (ids_of content)) y inside).passes

  chosen_ascends : (id : List ℕ) → Ascend (chosen_plan content rows id)
  chosen_ascends id = IsStrictlySortedBy-filter id_cmp (picked_within content rows (length content.sysmods) id) (in_order (ids_of content)) (in_order_ascends (ids_of content))

  -- ---- blocked needs

  none_from : (o : Option (List ℕ)) → is_none o ≡ true → o ≡ None
  none_from None e = refl
  none_from (Some x) e = absurd (cc)

  held_by : (id need : List ℕ) → is_good content rows id ≡ false → is_candidate content rows id ≡ true → blocked_need content rows id ≡ Some need → IsHeldFor (world_of content rows) id need
  held_by id need off candidate e =
      let inside = (in_order_has (open_needs content rows id) need).0 (find_inside (λ (r : List ℕ). is_none (pick_for content rows r)) (in_order (open_needs content rows id)) need e) in
      let passes = (find_some (λ (r : List ℕ). is_none (pick_for content rows r)) (in_order (open_needs content rows id)) need e).passes in
      record {
        candidate = candidate;
        held = λ is. not_good content rows id off is;
        blocked = record {
          holds = record {
            needs = open_needed id need inside;
            absent = open_absent id need inside;
            ungiven = no_giver need (none_from (pick_for content rows need) passes);
          };
          least = λ y unmet above.
              find_least (λ (r : List ℕ). is_none (pick_for content rows r)) (in_order (open_needs content rows id)) need (in_order_ascends (open_needs content rows id)) e y
              ((in_order_has (open_needs content rows id) y).1 (absent_open id y unmet.needs unmet.absent))
              (ungiven (pick_for content rows y) y refl unmet.ungiven) above;
        };
      }
    where
      ungiven : (o : Option (List ℕ)) → (y : List ℕ) → pick_for content rows y ≡ o → ((z : List ℕ) → IsGoodGiver (world_of content rows) y z → ⊥) → is_none o ≡ true
      ungiven None y e none = refl
      ungiven (Some z) y e none = absurd (none z (pick_gives y z (pick_is y z e)))

  -- ---- verdicts

  verdict_by : (id : List ℕ) (b c : Bool) (o : Option (List ℕ)) → is_good content rows id ≡ b → is_candidate content rows id ≡ c → blocked_need content rows id ≡ o
      → IsVerdict content rows id (cond b (good (chosen_plan content rows id)) (cond c (held_for content rows o) lack))
  verdict_by id true c o on e_candidate e_blocked = (
    record {
      good = good_from content rows id on;
      chosen = chosen_from id;
      whole = λ y leads. chosen_found id y (good_from content rows id on) leads;
    },
    chosen_ascends id,
  )
  verdict_by id false true (Some need) off candidate blocked = held_by id need off candidate blocked
  verdict_by id false true None off candidate blocked = absurd (not_good content rows id off (unblocked_good content rows id candidate blocked))
  verdict_by id false false o off none blocked = λ candidate. (let no_candidate = none in cc)

  -- plain search finds the verdict
  pub found_verdict : (id : List ℕ) → IsVerdict content rows id (verdict_of content rows id)
  found_verdict id = verdict_by id (is_good content rows id) (is_candidate content rows id) (blocked_need content rows id) refl refl refl

  -- there is one verdict alone
  one_verdict : (id : List ℕ) (a b : Judged) → IsVerdict content rows id a → IsVerdict content rows id b → a ≡ b
  one_verdict id (good a) (good b) first second =
      ap good (ascending_same a b first.1 second.1 (λ z inside. second.0.whole z (first.0.chosen z inside)) (λ z inside. first.0.whole z (second.0.chosen z inside)))
  one_verdict id (good a) (held b) first second = absurd (second.held first.0.good)
  one_verdict id (good a) lack first second = absurd (second (first.0.good.plan.candidates id first.0.good.member))
  one_verdict id (held a) (good b) first second = absurd (first.held second.0.good)
  one_verdict id (held a) (held b) first second = ap held (at_most_same a b (first.blocked.least b second.blocked.holds) (second.blocked.least a first.blocked.holds))
  one_verdict id (held a) lack first second = absurd (second first.candidate)
  one_verdict id lack (good b) first second = absurd (first (second.0.good.plan.candidates id second.0.good.member))
  one_verdict id lack (held b) first second = absurd (first second.candidate)
  one_verdict id lack lack first second = refl

  -- what is a verdict is the one that plain search finds
  pub verdict_is : (id : List ℕ) (judged : Judged) → IsVerdict content rows id judged → judged ≡ verdict_of content rows id
  verdict_is id judged is = one_verdict id judged (verdict_of content rows id) is (found_verdict id)
