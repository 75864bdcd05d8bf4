use Rattle.std.proofs.Common.{◌≡◌, ◌∙◌, List, map, sym, subst}
use Rattle.lemmas.proofs.ResultFacts.{ok_so}
use Rattle.catalogue.proofs.SourceFacts.{told_later}
use Rattle.catalogue.proofs.TellingFacts.{told_by_two}
use Rattle.zone_plans.specs.Plans as Plans
use Rattle.zone_plans.specs.declared.placing.Placed.{Placed}
use Rattle.zone_plans.proofs.PlanFacts.{chosen_are_good, is_zone_plan}
use Rattle.zone_plans.proofs.plan.zone_plan.Goals as goal

pub returns-clause-plan : goal.returns-clause-plan
returns-clause-plan g c =
    let law = g.met.P.Published.lawful in
    let rows = c.args.zone.now in
    let holds = c.args.holds.now in
    ok_so c.plan_for.result c.plan_for.ensures.plan (λ plan tells.
    told_by_two (law.keeps _ _ c.in_ok-placed.ensures.asks.keeps) (law.keeps _ _ c.plan_for.ensures.asks.keeps) c.in_ok-placed.ensures.placed tells (λ content placed planned. λ right told.
    let all : c.deref.result.now ≡ map (Plans.placed content) holds = c.deref.ensures.value ∙ placed in
    let G : List Placed → Type 0 = λ l. Plans.AreGood content rows l in
    let P : List Placed → Type 0 = λ l. Plans.IsPlanFor content rows l plan in
    is_zone_plan content rows holds told plan (subst P all (planned right (subst G (sym all) (chosen_are_good content rows holds told))))))

pub returns-clause-right : goal.returns-clause-right
returns-clause-right g c =
    let law = g.met.P.Published.lawful in
    told_later (law.keeps _ _ c.in_ok-placed.ensures.asks.keeps) (law.keeps _ _ c.plan_for.ensures.asks.keeps) c.plan_for.ensures.right
