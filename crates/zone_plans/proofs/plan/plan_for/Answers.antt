use Rattle.std.proofs.Common.{◌≡◌, ◌∙◌, Err, List, ℕ, ap, rules, subst, sym}
use Rattle.std.specs.List.{Contains}
use Rattle.catalogue.proofs.SourceFacts.{no_fault, told_both}
use Rattle.catalogue.proofs.TellingFacts.{told_by_two}
use Rattle.catalogue.specs.declared.fault.SourceFault.TheVariants.{Device}
use Rattle.verdicts.specs.Judge.{status_of}
use Rattle.verdicts.specs.United.{united}
use Rattle.verdicts.specs.Verdicts.{verdict_of}
use Rattle.verdicts.specs.declared.verdict.Status.TheVariants as status
use Rattle.zone_plans.specs.Findings.{findings_of}
use Rattle.zone_plans.specs.Plans as Plans
use Rattle.zone_plans.proofs.PlanFacts.{plan_found, refused_later}
use Rattle.zone_plans.proofs.plan.plan_for.Goals as goal

pub returns-clause-plan : goal.returns-clause-plan
returns-clause-plan g c =
    let law = g.met.P.Published.lawful in
    let rows = c.args.zone.now in
    let placed = c.args.placed.now in
    told_by_two (law.keeps _ _ c.in_ok-findings.ensures.asks.keeps) (law.keeps _ _ c.in_ok-blocked.ensures.asks.keeps) (told_both c.in_ok-findings.ensures.findings c.in_ok-findings.ensures.right) c.in_ok-blocked.ensures.needs (λ content found needs. λ right good.
    let chosen : c.deref-3.result.now ≡ Plans.chosen_in placed = c.deref-3.ensures.value ∙ c.in_ok-chosen.ensures.chosen in
    let all_good : (id : List ℕ) → Contains c.deref-3.result.now id → status_of (verdict_of content rows id) ≡ status.Good = (λ id inside. let P : List (List ℕ) → Type 0 = λ l. Contains l id in good id (subst P chosen inside)) in
    let findings = found.0 right ∙ ap (λ l. findings_of content rows (united content rows l)) (c.deref-2.ensures.value ∙ sym c.deref-3.ensures.value) in
    plan_found content rows placed c.deref-3.result.now c.deref-4.result.now c.in_ok-steps.steps c.in_ok-findings.findings c.in_ok-holds.holds.resolved.items c.in_ok-holds.holds.held.items c.in_ok-holds.holds.unresolved.items c.in_ok-blocked.blocked.items
    chosen findings c.in_ok-holds.ensures.resolved c.in_ok-holds.ensures.unresolved c.in_ok-holds.ensures.held
    (c.deref-4.ensures.value ∙ c.in_ok-waiting.ensures ∙ ap Plans.resolvers_of c.deref.ensures.value)
    (c.in_ok-steps.ensures content rows findings all_good) (needs (found.1 right)))

pub returns-clause-right : goal.returns-clause-right
returns-clause-right g c =
    let law = g.met.P.Published.lawful in
    told_by_two (law.keeps _ _ c.in_ok-findings.ensures.asks.keeps) (law.keeps _ _ c.in_ok-blocked.ensures.asks.keeps) c.in_ok-findings.ensures.right c.in_ok-blocked.ensures.right (λ content found blocked. λ right. blocked (found right))

pub returns-in_err-blocked-clause-right : goal.returns-in_err-blocked-clause-right
returns-in_err-blocked-clause-right g c =
    let law = g.met.P.Published.lawful in
    told_by_two (law.keeps _ _ c.in_ok-findings.ensures.asks.keeps) (law.keeps _ _ c.blocked_needs.ensures.asks.keeps) c.in_ok-findings.ensures.right c.blocked_needs.ensures.right (λ content found blocked. λ right. blocked (found right))

pub returns-in_err-blocked-clause-asks : goal.returns-in_err-blocked-clause-asks
returns-in_err-blocked-clause-asks g c =
    let law = g.met.P.Published.lawful in
    let asks = c.in_ok-findings.ensures.asks in
    let is : c.from_residual-in_err-blocked.result ≡ Err c.in_err-blocked.field-0.0 = search (rules, c.from_residual-in_err-blocked.ensures) in
    refused_later g.P.Published.content_view law Device c.args.source.now c.find.new.source c.blocked_needs.new.source c.in_err-blocked.field-0.0 c.from_residual-in_err-blocked.result
    asks.keeps (asks.stays_open (no_fault _)) c.in_err-blocked.ensures.asks is
