-- What is found for a plan has all that is said of its members.
use Rattle.std.proofs.Common.{◌≡◌, ◌∙◌, ℕ, List, Option, Some, map, sym, ap, subst, true}
use Rattle.std.specs.List.{Contains, filter_map, flat_map}
use Rattle.lemmas.proofs.ListFacts.{flat_inside, made_from, map_found, map_from, map_inside}
use Rattle.zone_lists.specs.declared.zones.ZoneRow.{ZoneRow}
use Rattle.catalogue.specs.Content.{Content}
use Rattle.catalogue.proofs.IdFacts.{in_order_has}
use Rattle.supersede.specs.Reach.{has}
use Rattle.supersede.proofs.ReachFacts.{has_from}
use Rattle.verdicts.specs.Candidates.{candidates_unless_there}
use Rattle.verdicts.specs.United.{united}
use Rattle.reports.specs.Holds.{HoldLists}
use Rattle.zone_plans.specs.declared.holds.HoldOn.{HoldOn}
use Rattle.zone_plans.specs.Findings.{AreFindings, AreFoundOf, FindingLists, findings_of, known_givers}
use Rattle.zone_plans.specs.Members.{joined}
use Rattle.zone_plans.specs.Plans.{IsZonePlan, PlanLists, chosen_in, if_resolved, placed, resolved_in, resolver_by, resolvers_of}
use Rattle.zone_plans.specs.Readings.{ReadingLists, all_needs, reading_of}
use Rattle.zone_plans.specs.declared.holds.ChosenResolver.{ChosenResolver}
use Rattle.zone_plans.specs.declared.placing.Fate.{Fate}
use Rattle.zone_plans.specs.declared.placing.Fate.TheVariants.{Resolved, Held, Unresolved}
use Rattle.zone_plans.specs.declared.placing.Placed.{Placed}
use Rattle.zone_plans.proofs.PlannedFacts.{chosen_in_united, in_united}

-- what was found, by its parts
abbrev found_as : List (List ℕ) → List ReadingLists → List (List (List ℕ)) → List (List ℕ) → List (Option (List (List ℕ))) → FindingLists
found_as ids readings givers asked answers = record { ids = ids; readings = readings; givers = givers; asked = asked; answers = answers }

pub found_so : (content : Content) (rows : List ZoneRow) (chosen ids : List (List ℕ)) (readings : List ReadingLists) (givers : List (List (List ℕ))) (asked : List (List ℕ)) (answers : List (Option (List (List ℕ))))
    → ids ≡ united content rows chosen → readings ≡ map (reading_of content rows) ids → givers ≡ map (known_givers content rows) ids → asked ≡ all_needs readings
    → answers ≡ map (candidates_unless_there content rows) asked
    → record { ids = ids; readings = readings; givers = givers; asked = asked; answers = answers } ≡ findings_of content rows (united content rows chosen)
found_so content rows chosen ids readings givers asked answers ids_are read given needs answered =
    let all = map (reading_of content rows) ids in
    let needed : asked ≡ all_needs all = needs ∙ ap all_needs read in
    ap (λ r. found_as ids r givers asked answers) read
    ∙ ap (λ l. found_as ids all l asked answers) given
    ∙ ap (found_as ids all (map (known_givers content rows) ids) asked) answered
    ∙ ap (λ n. found_as ids all (map (known_givers content rows) ids) n (map (candidates_unless_there content rows) n)) needed
    ∙ ap (findings_of content rows) ids_are

pub found_is : (content : Content) (rows : List ZoneRow) (ids : List (List ℕ)) (findings : FindingLists) → findings ≡ findings_of content rows ids → AreFindings content rows findings
found_is content rows ids findings e = e ∙ ap (findings_of content rows) (sym (ap (λ (f : FindingLists). f.ids) e))

-- what one of them needs was asked for
pub need_found : (content : Content) (rows : List ZoneRow) (findings : FindingLists) → AreFindings content rows findings → (id need : List ℕ) → Contains findings.ids id → Contains (reading_of content rows id).needs need → Contains findings.asked need
need_found content rows findings are id need inside needs =
    let P : List (List ℕ) → Type 0 = λ l. Contains l need in
    let all = map (reading_of content rows) findings.ids in
    subst P (sym (ap (λ (f : FindingLists). f.asked) are))
    ((in_order_has (flat_map (λ (r : ReadingLists). r.needs) all) need).1
    (flat_inside (λ (r : ReadingLists). r.needs) all (reading_of content rows id) need (map_inside (reading_of content rows) findings.ids id inside) needs))

-- ---- of a plan

chosen_by : (hold : HoldOn) (fate : Fate) (one : ChosenResolver) → if_resolved hold fate ≡ Some one → resolver_by fate ≡ Some one.resolver
chosen_by hold (Resolved id) one e = let same : record { hold = hold; resolver = id } ≡ one = (cc e) in ap (λ (o : ChosenResolver). Some o.resolver) same
chosen_by hold (Held id) one e = absurd (cc e)
chosen_by hold Unresolved one e = absurd (cc e)

-- the resolver of a hold that is resolved is chosen
resolved_chosen : (holds : List Placed) (one : ChosenResolver) → Contains (resolved_in holds) one → Contains (chosen_in holds) one.resolver
resolved_chosen holds one inside =
    let made = made_from (λ (p : Placed). if_resolved p.hold p.fate) holds one inside in
    (in_order_has (filter_map (λ (p : Placed). resolver_by p.fate) holds) one.resolver).1
    (map_found (λ (p : Placed). resolver_by p.fate) holds made.from one.resolver made.member (chosen_by made.from.hold made.from.fate one made.is))

module _ (content : Content) (rows : List ZoneRow) (holds : List HoldLists) (plan : PlanLists) (is : IsZonePlan content rows holds plan) where
  are_so : plan.findings ≡ findings_of content rows (united content rows (chosen_in (map (placed content) holds)))
  are_so = ap (λ (p : PlanLists). p.findings) is.are

  ids_are : plan.findings.ids ≡ united content rows (chosen_in (map (placed content) holds))
  ids_are = ap (λ (f : FindingLists). f.ids) are_so

  -- it was found of each member
  pub members_found : AreFoundOf content rows plan.findings (joined plan.steps)
  members_found = record {
    so = found_is content rows (united content rows (chosen_in (map (placed content) holds))) plan.findings are_so;
    each = λ id inside.
        let P : List (List ℕ) → Type 0 = λ l. Contains l id in
        let from = is.steps.planned id inside in
        subst P (sym ids_are) (in_united content rows (chosen_in (map (placed content) holds)) is.good from.resolver id from.is_chosen from.listed);
  }

  -- and of each resolver that is chosen
  pub resolvers_found : AreFoundOf content rows plan.findings (resolvers_of plan.resolved)
  resolvers_found = record {
    so = found_is content rows (united content rows (chosen_in (map (placed content) holds))) plan.findings are_so;
    each = λ id inside.
        let P : List (List ℕ) → Type 0 = λ l. Contains l id in
        let R : List ChosenResolver → Type 0 = λ l. Contains (resolvers_of l) id in
        let resolved : plan.resolved ≡ resolved_in (map (placed content) holds) = ap (λ (p : PlanLists). p.resolved) is.are in
        let from = map_from (λ (one : ChosenResolver). one.resolver) (resolved_in (map (placed content) holds)) id (subst R resolved inside) in
        let chosen = subst (λ (x : List ℕ). Contains (chosen_in (map (placed content) holds)) x) from.is (resolved_chosen (map (placed content) holds) from.from from.member) in
        subst P (sym ids_are) (chosen_in_united content rows (chosen_in (map (placed content) holds)) is.good id chosen);
  }

-- of each of some SYSMODs, of which those are
pub found_among : (content : Content) (rows : List ZoneRow) (findings : FindingLists) (ids some : List (List ℕ)) → AreFoundOf content rows findings ids → ((id : List ℕ) → Contains some id → Contains ids id) → AreFoundOf content rows findings some
found_among content rows findings ids some found inside = record { so = found.so; each = λ id here. found.each id (inside id here) }

-- what was looked up of one of those that are known
pub looked_up : {A : Type 0} {values : List A} {found : A} (ids known : List (List ℕ)) (id : List ℕ) (f : List ℕ → A) → ((f : List ℕ → A) → values ≡ map f ids → has ids id ≡ true → found ≡ f id)
    → ids ≡ known → values ≡ map f known → Contains known id → found ≡ f id
looked_up ids known id f look same are inside =
    let P : List (List ℕ) → Type 0 = λ l. Contains l id in
    look f (are ∙ ap (map f) (sym same)) (has_from ids id (subst P (sym same) inside))
