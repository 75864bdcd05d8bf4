-- The plan for the holds of a report.
use Rattle.std.proofs.Common.{◌≡◌, ◌∙◌, ℕ, zero, suc, ◌-◌, Err, List, [], ◌∷◌, Option, Result, Some, None, arith, inl, inr, length, map, refl, sym, ap, subst}
use Rattle.std.specs.Prelude.{IfSome, not}
use Rattle.std.specs.List.{Contains, filter_map, slice_get}
use Rattle.lemmas.proofs.ListFacts.{first_inside, kept_from, made_from, map_found, map_from, map_inside, rest_inside}
use Rattle.zone_lists.specs.declared.zones.ZoneRow.{ZoneRow}
use Rattle.catalogue.specs.Content.{Content}
use Rattle.catalogue.specs.Ids.{in_order}
use Rattle.catalogue.specs.View.{HasFailed, IsLawful, IsOpen, MayAsk, View}
use Rattle.catalogue.proofs.IdFacts.{in_order_has}
use Rattle.verdicts.specs.Judge.{status_of}
use Rattle.verdicts.specs.Verdicts.{verdict_of}
use Rattle.verdicts.specs.declared.verdict.Status.{Status}
use Rattle.verdicts.specs.declared.verdict.Status.TheVariants.{Good, Held}
use Rattle.reports.specs.Holds.{HoldLists}
use Rattle.zone_plans.specs.Choices.{choice, is_given, of_status, on_top, received_or_all, same_status}
use Rattle.blocked_needs.specs.Blocked.{AreBlockedNeeds, blocked_needs_of}
use Rattle.blocked_needs.specs.declared.blocked.BlockedNeed.{BlockedNeed}
use Rattle.verdicts.specs.United.{united}
use Rattle.zone_plans.specs.Findings.{FindingLists, findings_of}
use Rattle.zone_plans.specs.Members.{AreZoneSteps, IsGivenBy, joined, zone_steps_of}
use Rattle.zone_plans.specs.Plans.{AreTold, IsPlanFor, IsZonePlan, PlanLists, chosen_in, fate_by, held_in, if_held, placed, resolved_in, resolver_by, resolvers_of, unresolved_in}
use Rattle.zone_plans.specs.declared.holds.ChosenResolver.{ChosenResolver}
use Rattle.zone_plans.specs.declared.holds.HoldOn.{HoldOn}
use Rattle.reports.specs.declared.holds.Resolver.{Resolver}
use Rattle.zone_plans.specs.declared.placing.Placed.{Placed}
use Rattle.zone_plans.proofs.ChosenFacts.{IsOfKind, kept_or_all, same_is}

got_inside : (xs : List (List ℕ)) (k : ℕ) (x : List ℕ) → slice_get xs k ≡ Some x → Contains xs x
got_inside [] k x e = absurd (cc e)
got_inside (y ∷ ys) zero x e = let same : y ≡ x = cc e in let P : List ℕ → Type 0 = λ z. Contains (y ∷ ys) z in subst P same (first_inside y ys)
got_inside (y ∷ ys) (suc k) x e = rest_inside y x ys (got_inside ys k x e)

choice_is : (content : Content) (status : Status) (hold : HoldLists) (id : List ℕ) → choice content status hold ≡ Some id → IsOfKind status hold id
choice_is content status hold id e =
    let kinds = of_status status hold.resolvers in
    let among = map (λ (r : Resolver). r.id) (received_or_all kinds) in
    let top = (in_order_has (on_top content among) id).0 (got_inside (in_order (on_top content among)) (length (in_order (on_top content among)) - 1) id e) in
    let own = map_from (λ (r : Resolver). r.id) (received_or_all kinds) id (kept_or_all (λ i. not (is_given content among i)) among id top) in
    let kept = kept_from (λ (r : Resolver). same_status r.status status) hold.resolvers own.from (kept_or_all (λ (r : Resolver). r.received) kinds own.from own.member) in
    record { resolver = own.from; listed = kept.member; is = own.is; kind = same_is own.from.status status kept.passes }

resolved_is : (good waiting : Option (List ℕ)) (id : List ℕ) → resolver_by (fate_by good waiting) ≡ Some id → good ≡ Some id
resolved_is (Some x) waiting id e = e
resolved_is None (Some x) id e = absurd (cc e)
resolved_is None None id e = absurd (cc e)

is_resolved : (good waiting : Option (List ℕ)) (id : List ℕ) → good ≡ Some id → resolver_by (fate_by good waiting) ≡ Some id
is_resolved (Some x) waiting id e = e
is_resolved None waiting id e = absurd (cc e)

module _ (content : Content) (rows : List ZoneRow) (holds : List HoldLists) where
  pub chosen_are_good : AreTold content rows holds → (id : List ℕ) → Contains (chosen_in (map (placed content) holds)) id → status_of (verdict_of content rows id) ≡ Good
  chosen_are_good told id inside =
      let made = made_from (λ (one : Placed). resolver_by one.fate) (map (placed content) holds) id ((in_order_has (filter_map (λ (one : Placed). resolver_by one.fate) (map (placed content) holds)) id).0 inside) in
      let from = map_from (placed content) holds made.from made.member in
      let R : Placed → Type 0 = λ one. resolver_by one.fate ≡ Some id in
      let good = resolved_is (choice content Good from.from) (choice content Held from.from) id (subst R (sym from.is) made.is) in
      let own = choice_is content Good from.from id good in
      let P : List ℕ → Type 0 = λ x. status_of (verdict_of content rows x) ≡ Good in
      subst P own.is (sym (told from.from own.resolver from.member own.listed) ∙ own.kind)

  pub chosen_inside : (hold : HoldLists) (id : List ℕ) → Contains holds hold → choice content Good hold ≡ Some id → Contains (chosen_in (map (placed content) holds)) id
  chosen_inside hold id inside e =
      (in_order_has (filter_map (λ (one : Placed). resolver_by one.fate) (map (placed content) holds)) id).1
      (map_found (λ (one : Placed). resolver_by one.fate) (map (placed content) holds) (placed content hold) id (map_inside (placed content) holds hold inside)
      (is_resolved (choice content Good hold) (choice content Held hold) id e))

  each_resolved : (steps : List (List (List ℕ))) → AreZoneSteps content rows (chosen_in (map (placed content) holds)) steps → (hold : HoldLists) → Contains holds hold → (o : Option (List ℕ)) → choice content Good hold ≡ o → IfSome o (IsGivenBy content (joined steps))
  each_resolved steps are hold inside None e = tt
  each_resolved steps are hold inside (Some id) e = are.resolved id (chosen_inside hold id inside e)

  -- a hold of which none is GOOD has a resolver that is held
  held_is : (good held : Option (List ℕ)) (hold : HoldOn) (one : ChosenResolver) → if_held hold (fate_by good held) ≡ Some one → held ≡ Some one.resolver
  held_is (Some x) held hold one e = absurd (cc e)
  held_is None (Some x) hold one e = let same : record { hold = hold; resolver = x } ≡ one = (cc e) in ap (λ (o : ChosenResolver). Some o.resolver) same
  held_is None None hold one e = absurd (cc e)

  chosen_held : AreTold content rows holds → (one : ChosenResolver) → Contains (held_in (map (placed content) holds)) one → status_of (verdict_of content rows one.resolver) ≡ Held
  chosen_held told one inside =
      let made = made_from (λ (p : Placed). if_held p.hold p.fate) (map (placed content) holds) one inside in
      let from = map_from (placed content) holds made.from made.member in
      let W : Placed → Type 0 = λ p. if_held p.hold p.fate ≡ Some one in
      let on : if_held (placed content from.from).hold (placed content from.from).fate ≡ Some one = subst W (sym from.is) made.is in
      let held = held_is (choice content Good from.from) (choice content Held from.from) (placed content from.from).hold one on in
      let own = choice_is content Held from.from one.resolver held in
      let V : List ℕ → Type 0 = λ x. status_of (verdict_of content rows x) ≡ Held in
      subst V own.is (sym (told from.from own.resolver from.member own.listed) ∙ own.kind)

  pub is_zone_plan : AreTold content rows holds → (plan : PlanLists) → IsPlanFor content rows (map (placed content) holds) plan → IsZonePlan content rows holds plan
  is_zone_plan told plan is =
      let held : plan.held ≡ held_in (map (placed content) holds) = ap (λ (p : PlanLists). p.held) is.are in
      record {
        are = is.are;
        good = chosen_are_good told;
        steps = is.steps;
        resolved = λ hold inside. each_resolved plan.steps is.steps hold inside (choice content Good hold) refl;
        blocked = is.blocked;
        waits = λ one inside. is.blocked.begun one.resolver (map_inside (λ (c : ChosenResolver). c.resolver) plan.held one inside)
            (let P : List ChosenResolver → Type 0 = λ l. Contains l one in chosen_held told one (subst P held inside));
      }

-- a plan of its parts
abbrev plan_as : List (List (List ℕ)) → FindingLists → List ChosenResolver → List HoldOn → List ChosenResolver → List BlockedNeed → PlanLists
plan_as steps findings resolved unresolved held blocked =
    record { steps = steps; findings = findings; resolved = resolved; unresolved = unresolved; held = held; blocked = blocked }

-- a plan by what was found for it
pub plan_found : (content : Content) (rows : List ZoneRow) (placed : List Placed) (chosen waiting : List (List ℕ)) (steps : List (List (List ℕ))) (findings : FindingLists) (resolved held : List ChosenResolver)
    → (unresolved : List HoldOn) (blocked : List BlockedNeed) → chosen ≡ chosen_in placed → findings ≡ findings_of content rows (united content rows chosen)
    → resolved ≡ resolved_in placed → unresolved ≡ unresolved_in placed → held ≡ held_in placed → waiting ≡ resolvers_of held
    → AreZoneSteps content rows chosen steps → AreBlockedNeeds content rows waiting blocked
    → IsPlanFor content rows placed (record { steps = steps; findings = findings; resolved = resolved; unresolved = unresolved; held = held; blocked = blocked })
plan_found content rows placed chosen waiting steps findings resolved held unresolved blocked chosen_is findings_are resolved_is unresolved_is held_is waiting_is steps_are blocked_are =
    let S : List (List ℕ) → Type 0 = λ l. AreZoneSteps content rows l steps in
    let B : List (List ℕ) → Type 0 = λ l. AreBlockedNeeds content rows l blocked in
    let all : waiting ≡ resolvers_of (held_in placed) = waiting_is ∙ ap resolvers_of held_is in
    let all_steps = zone_steps_of content rows (chosen_in placed) in
    let found = findings_of content rows (united content rows (chosen_in placed)) in
    record {
      are =
          ap (λ s. plan_as s findings resolved unresolved held blocked) (steps_are.are ∙ ap (zone_steps_of content rows) chosen_is)
          ∙ ap (λ f. plan_as all_steps f resolved unresolved held blocked) (findings_are ∙ ap (λ l. findings_of content rows (united content rows l)) chosen_is)
          ∙ ap (λ r. plan_as all_steps found r unresolved held blocked) resolved_is
          ∙ ap (λ u. plan_as all_steps found (resolved_in placed) u held blocked) unresolved_is
          ∙ ap (λ h. plan_as all_steps found (resolved_in placed) (unresolved_in placed) h blocked) held_is
          ∙ ap (plan_as all_steps found (resolved_in placed) (unresolved_in placed) (held_in placed)) (blocked_are.are ∙ ap (blocked_needs_of content rows) all);
      steps = subst S chosen_is steps_are;
      blocked = subst B waiting_is blocked_are;
    }

-- where the last of two calls that ask a source is refused, so are both
pub refused_later : {Source Held Last Answer Fault : Type 0} (view : View Source Held) → IsLawful view → (device : Fault) (old mid new : Source) (fault : Fault) (result : Result Answer Fault)
    → view.keeps old mid → (IsOpen view old → IsOpen view mid) → MayAsk view {Answer = Last} device mid new (Err fault) → result ≡ Err fault → MayAsk view device old new result
refused_later view lawful device old mid new fault result keeps opens asks is = record {
  keeps = lawful.on old mid new keeps asks.keeps;
  cause = λ told. failed (asks.cause (let same : fault ≡ device = cc in ap Err same));
  stays_open = λ other standing. asks.stays_open (λ told. other (let same : fault ≡ device = cc in is ∙ ap Err same)) (opens standing);
} where
  failed : HasFailed view mid new → HasFailed view old new
  failed (inl more) = inl (omega (arith, (lawful.keeps old mid keeps).goes.failures_rise, more))
  failed (inr most) = inr most
