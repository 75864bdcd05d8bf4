use Rattle.std.proofs.Common.{◌≡◌, ◌∙◌, List, filter, not, subst, sym}
use Rattle.lemmas.proofs.ResultFacts.{ok_so}
use Rattle.holddata.specs.declared.hold.Hold.{Hold}
use Rattle.catalogue.proofs.SourceFacts.{told_both}
use Rattle.catalogue.proofs.TellingFacts.{told_by_two}
use Rattle.supersede.specs.Giving.{is_there}
use Rattle.reports.specs.Holds.{HoldLists, err_holds_of}
use Rattle.reports.specs.Resolvers.{candidates_for}
use Rattle.zone_plans.specs.Plans.{AreTold, IsZonePlan}
use Rattle.zone_plans.proofs.ToldFacts.{are_told}
use Rattle.zone_plans.proofs.report_plans.err_plan.Goals as goal

pub returns-clause-plan : goal.returns-clause-plan
returns-clause-plan g c =
    let law = g.met.P.Published.lawful in
    let rows = c.args.zone.now in
    ok_so c.zone_plan.result c.zone_plan.ensures.plan (λ plan tells.
    told_by_two (law.keeps _ _ c.in_ok-held.ensures.asks.keeps) (law.keeps _ _ c.zone_plan.ensures.asks.keeps) (told_both c.in_ok-held.ensures.holds c.in_ok-held.ensures.right) tells (λ content facts planned. λ right.
    let same : c.deref.result.now ≡ err_holds_of content rows c.args.received.now c.args.holds.now = c.deref.ensures.value ∙ facts.0 right in
    let T : List HoldLists → Type 0 = λ l. AreTold content rows l in
    let P : List HoldLists → Type 0 = λ l. IsZonePlan content rows l plan in
    subst P same (planned (facts.1 right) (subst T (sym same)
    (are_told content rows c.args.received.now (λ (hold : Hold). candidates_for content rows hold.key.reason) (filter (λ hold. not (is_there content rows hold.key.reason)) c.args.holds.now))))))

pub returns-clause-right : goal.returns-clause-right
returns-clause-right g c =
    let law = g.met.P.Published.lawful in
    told_by_two (law.keeps _ _ c.in_ok-held.ensures.asks.keeps) (law.keeps _ _ c.zone_plan.ensures.asks.keeps) c.in_ok-held.ensures.right c.zone_plan.ensures.right (λ content first second. λ right. second (first right))
