-- What chosen plans have together is a plan.
use Rattle.std.proofs.Common.{◌≡◌, ◌&&◌, ℕ, List, [], ◌∷◌, ◌++◌, Bool, true, false, cond, Option, Some, None, refl, sym, ap, subst, inl, inr}
use Rattle.std.specs.List.{Contains, filter, find, flat_map}
use Rattle.lemmas.proofs.ListFacts.{first_true, flat_from, flat_inside, kept_from, kept_inside, second_true}
use Rattle.zone_lists.specs.declared.zones.ZoneRow.{ZoneRow}
use Rattle.catalogue.specs.Content.{Content, IsCatalogued, ids_of}
use Rattle.catalogue.specs.Ids.{in_order}
use Rattle.catalogue.proofs.IdFacts.{in_order_ascends, in_order_has}
use Rattle.supersede.specs.Giving.{gives, givers_of, is_candidate, is_there, needs_in}
use Rattle.supersede.specs.Leading.{Gives, IsThere, IsWay}
use Rattle.supersede.proofs.LeadingFacts.{gives_is, there_is}
use Rattle.requisites.specs.World.{IsChosen, IsGood, IsGoodGiver, IsPick, PicksFor}
use Rattle.requisites.proofs.LeadsFacts.{leads_closed, leads_itself, leads_more}
use Rattle.verdicts.specs.Candidates.{candidates_unless_there}
use Rattle.verdicts.specs.Judge.{status_of}
use Rattle.verdicts.specs.United.{plan_by, plan_in, united}
use Rattle.verdicts.specs.Verdicts.{Judged, good, held, is_good, lack, verdict_of}
use Rattle.verdicts.specs.Worlds.{IsVerdict, world_of}
use Rattle.verdicts.specs.declared.verdict.Status.TheVariants as status
use Rattle.verdicts.proofs.GoodFacts.{candidate_inside, good_from}
use Rattle.verdicts.proofs.OrderFacts.{find_least}
use Rattle.verdicts.proofs.StatusFacts.{candidate_gives, find_none, find_some, not_good}
use Rattle.verdicts.proofs.VerdictFacts.{found_verdict, giver_passes, pick_gives}
use Rattle.zone_plans.specs.Findings.{givers_or, known_givers}
use Rattle.zone_plans.specs.Members.{IsPlanned}

module _ (content : Content) (rows : List ZoneRow) where
  -- ---- good ids and their picks

  good_giver : (id : List ℕ) → IsGood (world_of content rows) id → IsGoodGiver (world_of content rows) id id
  good_giver id is = record { good = is; gives = (gives_is content id id).0 (candidate_gives content rows id (is.plan.candidates id is.member)) }

  pub catalogued : (id : List ℕ) → is_candidate content rows id ≡ true → IsCatalogued content id
  catalogued id candidate = (kept_from (is_candidate content rows) (ids_of content) id (candidate_inside content rows id candidate)).member

  good_listed : (z : List ℕ) → IsGood (world_of content rows) z → Contains (in_order (ids_of content)) z
  good_listed z is = (in_order_has (ids_of content) z).1 (catalogued z (is.plan.candidates z is.member))

  -- what is a pick for a need that something good gives
  pub record HasPick (need : List ℕ) : Type 0 where
    pub id : List ℕ
    pub pick : IsPick (world_of content rows) need id

  found_pick : (need g : List ℕ) → IsGoodGiver (world_of content rows) need g → is_good content rows need ≡ false → (o : Option (List ℕ)) → find (λ id. is_good content rows id && gives content id need) (in_order (ids_of content)) ≡ o → HasPick need
  found_pick need g giver off None e =
      absurd (let no = find_none (λ (id : List ℕ). is_good content rows id && gives content id need) (in_order (ids_of content)) g e (good_listed g giver.good) in
      let yes = giver_passes content rows need g giver in cc)
  found_pick need g giver off (Some z) e =
      let passes = (find_some (λ (id : List ℕ). is_good content rows id && gives content id need) (in_order (ids_of content)) z e).passes in
      record {
        id = z;
        pick = inr (
          λ is. not_good content rows need off is,
          record {
            holds = record {
              good = good_from content rows z (first_true (is_good content rows z) (gives content z need) passes);
              gives = (gives_is content z need).0 (second_true (is_good content rows z) (gives content z need) passes);
            };
            least = λ y other above.
                find_least (λ (id : List ℕ). is_good content rows id && gives content id need) (in_order (ids_of content)) z (in_order_ascends (ids_of content)) e y
                (good_listed y other.good) (giver_passes content rows need y other) above;
          },
        );
      }

  pub some_pick : (need g : List ℕ) → IsGoodGiver (world_of content rows) need g → HasPick need
  some_pick need g giver = go (is_good content rows need) refl where
    go : (b : Bool) → is_good content rows need ≡ b → HasPick need
    go true on = record { id = need; pick = inl (good_from content rows need on, refl) }
    go false off = found_pick need g giver off (find (λ id. is_good content rows id && gives content id need) (in_order (ids_of content))) refl

  pub chosen_is_good : (id y : List ℕ) → IsGood (world_of content rows) id → IsChosen (world_of content rows) id y → IsGood (world_of content rows) y
  chosen_is_good id y is leads = leads_closed (λ z. IsGood (world_of content rows) z) (λ u v here step. (pick_gives content rows step.need v step.pick).good) is leads

  -- ---- one chosen plan

  pub record HasPlan (id : List ℕ) : Type 0 where
    pub good : IsGood (world_of content rows) id
    pub chosen : (y : List ℕ) → Contains (plan_in content rows id) y → IsChosen (world_of content rows) id y
    pub whole : (y : List ℕ) → IsChosen (world_of content rows) id y → Contains (plan_in content rows id) y

  has_plan_by : (id : List ℕ) (judged : Judged) → verdict_of content rows id ≡ judged → status_of judged ≡ status.Good → IsVerdict content rows id judged → HasPlan id
  has_plan_by id (good plan) e is verdict =
      let same : plan_in content rows id ≡ plan = ap plan_by e in
      record {
        good = verdict.0.good;
        chosen = λ y inside. verdict.0.chosen y (let P : List (List ℕ) → Type 0 = λ l. Contains l y in subst P same inside);
        whole = λ y leads. (let P : List (List ℕ) → Type 0 = λ l. Contains l y in subst P (sym same) (verdict.0.whole y leads));
      }
  has_plan_by id (held need) e is verdict = absurd (cc)
  has_plan_by id lack e is verdict = absurd (cc)

  pub has_plan : (id : List ℕ) → status_of (verdict_of content rows id) ≡ status.Good → HasPlan id
  has_plan id is = has_plan_by id (verdict_of content rows id) refl is (found_verdict content rows id)

  -- ---- all of them

  module _ (chosen : List (List ℕ)) (are_good : (id : List ℕ) → Contains chosen id → status_of (verdict_of content rows id) ≡ status.Good) where
    pub planned : (y : List ℕ) → Contains (united content rows chosen) y → IsPlanned content rows chosen y
    planned y inside =
        let from = flat_from (plan_in content rows) chosen y ((in_order_has (flat_map (plan_in content rows) chosen) y).0 inside) in
        record { resolver = from.from; is_chosen = from.listed; listed = from.has }

    pub in_united : (c y : List ℕ) → Contains chosen c → Contains (plan_in content rows c) y → Contains (united content rows chosen) y
    in_united c y listed has = (in_order_has (flat_map (plan_in content rows) chosen) y).1 (flat_inside (plan_in content rows) chosen c y listed has)

    pub chosen_in_united : (c : List ℕ) → Contains chosen c → Contains (united content rows chosen) c
    chosen_in_united c listed = in_united c c listed ((has_plan c (are_good c listed)).whole c (leads_itself (PicksFor (world_of content rows)) c))

    pub member_good : (y : List ℕ) → Contains (united content rows chosen) y → IsGood (world_of content rows) y
    member_good y inside =
        let from = planned y inside in
        let plan = has_plan from.resolver (are_good from.resolver from.is_chosen) in
        chosen_is_good from.resolver y plan.good (plan.chosen y from.listed)

    pub member_candidate : (y : List ℕ) → Contains (united content rows chosen) y → is_candidate content rows y ≡ true
    member_candidate y inside = let is = member_good y inside in is.plan.candidates y is.member

    -- a member that gives a need
    pub record IsUnitedGiver (need : List ℕ) : Type 0 where
      pub giver : List ℕ
      pub listed : Contains (united content rows chosen) giver
      pub gives : Gives content giver need

    pub need_given : (y need : List ℕ) → Contains (united content rows chosen) y → Contains (needs_in content rows y) need → (IsThere content rows need → ⊥) → IsUnitedGiver need
    need_given y need inside needs absent =
        let from = planned y inside in
        let plan = has_plan from.resolver (are_good from.resolver from.is_chosen) in
        let is = chosen_is_good from.resolver y plan.good (plan.chosen y from.listed) in
        elim (is.plan.needs_met y need is.member needs) [
          | inl there ↦ absurd (absent there)
          | inr given ↦
              (let giver : IsGoodGiver (world_of content rows) need given.giver = record { good = record { members = is.members; plan = is.plan; member = given.member }; gives = given.gives } in
              let picked = some_pick need given.giver giver in
              let leads = leads_more (plan.chosen y from.listed) (record { need = need; needs = needs; absent = absent; pick = picked.pick }) in
              record {
                giver = picked.id;
                listed = in_united from.resolver picked.id from.is_chosen (plan.whole picked.id leads);
                gives = (pick_gives content rows need picked.id picked.pick).gives;
              })
        ]

  -- ---- what is answered for a need

  pub answer_for : (need : List ℕ) → (IsThere content rows need → ⊥) → candidates_unless_there content rows need ≡ Some (filter (λ giver. is_candidate content rows giver) (givers_of content need))
  answer_for need absent = go (is_there content rows need) refl where
    go : (b : Bool) → is_there content rows need ≡ b → cond b None (Some (filter (λ giver. is_candidate content rows giver) (givers_of content need))) ≡ Some (filter (λ giver. is_candidate content rows giver) (givers_of content need))
    go true on = absurd (absent ((there_is content rows need).0 on))
    go false off = refl

  pub answer_has : (need z : List ℕ) → is_candidate content rows z ≡ true → Gives content z need → Contains (filter (λ giver. is_candidate content rows giver) (givers_of content need)) z
  answer_has need z candidate given =
      kept_inside (λ (giver : List ℕ). is_candidate content rows giver) (givers_of content need) z
      (kept_inside (λ (giver : List ℕ). gives content giver need) (ids_of content) z (catalogued z candidate) ((gives_is content z need).1 given)) candidate

  pub record IsAnswer (need : List ℕ) (givers : List (List ℕ)) : Type 0 where
    pub absent : IsThere content rows need → ⊥
    pub each : (z : List ℕ) → Contains givers z → Gives content z need

  pub answer_says : (need : List ℕ) (givers : List (List ℕ)) → candidates_unless_there content rows need ≡ Some givers → IsAnswer need givers
  answer_says need givers e = go (is_there content rows need) refl e where
    go : (b : Bool) → is_there content rows need ≡ b → cond b None (Some (filter (λ giver. is_candidate content rows giver) (givers_of content need))) ≡ Some givers → IsAnswer need givers
    go true on e = absurd (cc)
    go false off e = record {
      absent = λ there. (let on : is_there content rows need ≡ true = (there_is content rows need).1 there in cc);
      each = λ z inside.
          let same : givers ≡ filter (λ giver. is_candidate content rows giver) (givers_of content need) = (cc) in
          let P : List (List ℕ) → Type 0 = λ l. Contains l z in
          let kept = kept_from (λ (giver : List ℕ). is_candidate content rows giver) (givers_of content need) z (subst P same inside) in
          (gives_is content z need).0 (kept_from (λ (giver : List ℕ). gives content giver need) (ids_of content) z kept.member).passes;
    }

  -- ---- what gives one

  pub known_says : (id z : List ℕ) → Contains (known_givers content rows id) z → Gives content z id
  known_says id z inside = go (candidates_unless_there content rows id) refl inside where
    go : (o : Option (List (List ℕ))) → candidates_unless_there content rows id ≡ o → Contains (givers_or o (givers_of content id)) z → Gives content z id
    go None e inside = (gives_is content z id).0 (kept_from (λ (giver : List ℕ). gives content giver id) (ids_of content) z inside).passes
    go (Some known) e inside = (answer_says id known e).each z inside

  pub known_has : (id z : List ℕ) → is_candidate content rows z ≡ true → Gives content z id → Contains (known_givers content rows id) z
  known_has id z candidate given = go (candidates_unless_there content rows id) refl where
    go : (o : Option (List (List ℕ))) → candidates_unless_there content rows id ≡ o → Contains (givers_or o (givers_of content id)) z
    go None e = kept_inside (λ (giver : List ℕ). gives content giver id) (ids_of content) z (catalogued z candidate) ((gives_is content z id).1 given)
    go (Some known) e =
        let all : candidates_unless_there content rows id ≡ Some (filter (λ giver. is_candidate content rows giver) (givers_of content id)) = answer_for id (answer_says id known e).absent in
        let same : known ≡ filter (λ giver. is_candidate content rows giver) (givers_of content id) = cc in
        let P : List (List ℕ) → Type 0 = λ l. Contains l z in
        subst P (sym same) (answer_has id z candidate given)

  pub gives_itself : (id : List ℕ) → is_candidate content rows id ≡ true → Gives content id id
  gives_itself id candidate = (gives_is content id id).0 (candidate_gives content rows id candidate)

-- ways that lead on
way_joined : (content : Content) (from : List ℕ) (way : List (List ℕ)) (between : List ℕ) (more : List (List ℕ)) (to : List ℕ) → IsWay content from way between → IsWay content between more to → IsWay content from (way ++ more) to
way_joined content from [] between more to same later = let P : List ℕ → Type 0 = λ x. IsWay content x more to in subst P (sym same) later
way_joined content from (next ∷ way) between more to first later = (first.0, way_joined content next way between more to first.1 later)

-- what gives a SYSMOD gives what that gives
pub gives_joined : (content : Content) (giver id other : List ℕ) → Gives content giver id → Gives content id other → Gives content giver other
gives_joined content giver id other first second = record {
  catalogued = first.catalogued;
  way = first.way ++ second.way;
  leads = way_joined content giver first.way id second.way other first.leads second.leads;
}
