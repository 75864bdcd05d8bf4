-- One plan for the holds of a report on a zone.
use Rattle.std.specs.Prelude.{◌≡◌, ℕ, List, Option, Some, None, Contains, IfSome, map}
use Rattle.std.specs.List.{filter_map, flat_map}
use Rattle.holddata.specs.declared.hold.Hold.{Hold}
use Rattle.zone_lists.specs.declared.zones.ZoneRow.{ZoneRow}
use Rattle.catalogue.specs.Content.{Content}
use Rattle.catalogue.specs.Ids.{in_order}
use Rattle.verdicts.specs.Judge.{status_of}
use Rattle.verdicts.specs.United.{united}
use Rattle.verdicts.specs.Verdicts.{verdict_of}
use Rattle.verdicts.specs.declared.verdict.Status.TheVariants as status
use Rattle.blocked_needs.specs.Blocked.{AreBlockedNeeds, HasRow, blocked_needs_of}
use Rattle.blocked_needs.specs.declared.blocked.BlockedNeed.{BlockedNeed}
use Rattle.reports.specs.Holds.{HoldLists}
use Rattle.reports.specs.declared.holds.Resolver.{Resolver}
use Rattle.zone_plans.specs.Choices.{choice}
use Rattle.zone_plans.specs.Findings.{FindingLists, findings_of}
use Rattle.zone_plans.specs.Members.{AreZoneSteps, IsGivenBy, joined, zone_steps_of}
use Rattle.zone_plans.specs.declared.holds.ChosenResolver.{ChosenResolver}
use Rattle.zone_plans.specs.declared.holds.HoldOn.{HoldOn}
use Rattle.zone_plans.specs.declared.placing.Fate.{Fate}
use Rattle.zone_plans.specs.declared.placing.Fate.TheVariants.{Resolved, Held, Unresolved}
use Rattle.zone_plans.specs.declared.placing.Placed.{Placed}

-- the fate of a hold: the resolver that is GOOD and chosen, or else the one that is HELD, or neither
abbrev pub fate_by : Option (List ℕ) → Option (List ℕ) → Fate
fate_by (Some id) held = Resolved id
fate_by None (Some id) = Held id
fate_by None None = Unresolved

-- a hold by its SYSMOD and its reason
abbrev pub hold_on : Hold → HoldOn
hold_on hold = record { sysmod = hold.key.sysmod; reason = hold.key.reason }

abbrev pub placed : Content → HoldLists → Placed
placed content hold = record {
  hold = hold_on hold.hold;
  fate = fate_by (choice content status.Good hold) (choice content status.Held hold);
}

abbrev pub resolver_by : Fate → Option (List ℕ)
resolver_by (Resolved id) = Some id
resolver_by (Held id) = None
resolver_by Unresolved = None

-- the resolvers that are chosen, ascending, each once
abbrev pub chosen_in : List Placed → List (List ℕ)
chosen_in holds = in_order (filter_map (λ one. resolver_by one.fate) holds)

-- the holds with a GOOD resolver, each with the chosen one
abbrev pub if_resolved : HoldOn → Fate → Option ChosenResolver
if_resolved hold (Resolved id) = Some (record { hold = hold; resolver = id })
if_resolved hold (Held id) = None
if_resolved hold Unresolved = None

abbrev pub resolved_in : List Placed → List ChosenResolver
resolved_in holds = filter_map (λ one. if_resolved one.hold one.fate) holds

-- the holds without a GOOD resolver that have one that is HELD, each with the chosen one
abbrev pub if_held : HoldOn → Fate → Option ChosenResolver
if_held hold (Resolved id) = None
if_held hold (Held id) = Some (record { hold = hold; resolver = id })
if_held hold Unresolved = None

abbrev pub held_in : List Placed → List ChosenResolver
held_in holds = filter_map (λ one. if_held one.hold one.fate) holds

-- the holds without a resolver that is GOOD or HELD
abbrev pub if_unresolved : HoldOn → Fate → Option HoldOn
if_unresolved hold (Resolved id) = None
if_unresolved hold (Held id) = None
if_unresolved hold Unresolved = Some hold

abbrev pub unresolved_in : List Placed → List HoldOn
unresolved_in holds = filter_map (λ one. if_unresolved one.hold one.fate) holds

-- the resolvers of some holds
abbrev pub resolvers_of : List ChosenResolver → List (List ℕ)
resolvers_of holds = map (λ one. one.resolver) holds

-- the status of each resolver is that of its verdict
abbrev pub AreTold : Content → List ZoneRow → List HoldLists → Type 0
AreTold content rows holds =
    (hold : HoldLists) (resolver : Resolver) → Contains holds hold → Contains hold.resolvers resolver
    → resolver.status ≡ status_of (verdict_of content rows resolver.id)

-- ---- plans

-- A plan for a zone as contracts see it.
pub record PlanLists : Type 0 where
  pub steps : List (List (List ℕ))
  pub findings : FindingLists
  pub resolved : List ChosenResolver
  pub unresolved : List HoldOn
  pub held : List ChosenResolver
  pub blocked : List BlockedNeed

-- by the fate of each hold
abbrev pub plan_with : Content → List ZoneRow → List Placed → PlanLists
plan_with content rows holds = record {
  steps = zone_steps_of content rows (chosen_in holds);
  findings = findings_of content rows (united content rows (chosen_in holds));
  resolved = resolved_in holds;
  unresolved = unresolved_in holds;
  held = held_in holds;
  blocked = blocked_needs_of content rows (resolvers_of (held_in holds));
}

-- The plan for the holds of a report. It has the steps that install what the chosen GOOD resolvers want; the holds that are
-- resolved so, those without a resolver that is GOOD or HELD, and those without a GOOD one; the needs that block the chosen
-- resolvers of these; and the findings on the members of the chosen plans.
abbrev pub plan_of : Content → List ZoneRow → List HoldLists → PlanLists
plan_of content rows holds = plan_with content rows (map (placed content) holds)

-- the chosen resolvers are GOOD
abbrev pub AreGood : Content → List ZoneRow → List Placed → Type 0
AreGood content rows holds =
    (id : List ℕ) → Contains (chosen_in holds) id → status_of (verdict_of content rows id) ≡ status.Good

-- The plan is right. Its steps install what the chosen resolvers want, which are GOOD, and a member gives each of these. So
-- for each hold with a GOOD resolver there is a member that gives the chosen one. The table of blocked needs has a row of
-- each chosen resolver that is HELD.
pub record IsZonePlan (content : Content) (rows : List ZoneRow) (holds : List HoldLists) (plan : PlanLists) : Type 0 where
  pub are : plan ≡ plan_of content rows holds
  pub good : AreGood content rows (map (placed content) holds)
  pub steps : AreZoneSteps content rows (chosen_in (map (placed content) holds)) plan.steps
  pub resolved : (hold : HoldLists) → Contains holds hold → IfSome (choice content status.Good hold) (IsGivenBy content (joined plan.steps))
  pub blocked : AreBlockedNeeds content rows (resolvers_of plan.held) plan.blocked
  pub waits : (one : ChosenResolver) → Contains plan.held one → HasRow plan.blocked one.resolver

-- ---- No part of what is promised: private contracts cite it.

-- the SYSMODs that resolve some holds, ascending, each once
abbrev pub resolvers_named : List HoldLists → List (List ℕ)
resolvers_named holds = in_order (flat_map (λ hold. map (λ resolver. resolver.id) hold.resolvers) holds)

-- a plan by the fate of each hold
pub record IsPlanFor (content : Content) (rows : List ZoneRow) (holds : List Placed) (plan : PlanLists) : Type 0 where
  pub are : plan ≡ plan_with content rows holds
  pub steps : AreZoneSteps content rows (chosen_in holds) plan.steps
  pub blocked : AreBlockedNeeds content rows (resolvers_of plan.held) plan.blocked
