use Rattle.std.proofs.Common.{List, ℕ, subst, sym}
use Rattle.zone_plans.specs.Findings.{AreFoundOf, FindingLists}
use Rattle.zone_plans.specs.Plans.{resolvers_of}
use Rattle.zone_plans.specs.declared.holds.ChosenResolver.{ChosenResolver}
use Rattle.plan_reports.specs.Found.{AreNeeding, AreResolving, places_of}
use Rattle.plan_reports.proofs.finding.find.Goals as goal

pub returns-clause-found : goal.returns-clause-found
returns-clause-found c = λ content rows members resolvers.
    let needing = places_of c.in_ok-needing.needing.items in
    let resolving = places_of c.in_ok-resolving.resolving.items in
    let F : FindingLists → Type 0 = λ f. AreFoundOf content rows f c.args.ids.items in
    let I : List (List ℕ) → Type 0 = λ l. AreFoundOf content rows c.findings.result.now l in
    let G : FindingLists → Type 0 = λ f. AreFoundOf content rows f (resolvers_of c.args.plan.now.resolved) in
    let R : List ChosenResolver → Type 0 = λ l. AreFoundOf content rows c.findings-2.result.now (resolvers_of l) in
    let N : List (List ℕ) → Type 0 = λ l. AreNeeding content rows l needing in
    let V : List (List ℕ) → Type 0 = λ l. AreResolving content rows l c.resolved.result.now resolving in
    let W : List ChosenResolver → Type 0 = λ l. AreResolving content rows c.args.ids.items l resolving in
    record {
      needing = subst N c.deref.ensures.value (c.in_ok-needing.ensures content rows (subst I (sym c.deref.ensures.value) (subst F (sym c.findings.ensures) members)));
      resolving = subst W c.resolved.ensures (subst V c.deref-2.ensures.value (c.in_ok-resolving.ensures content rows (subst R (sym c.resolved.ensures) (subst G (sym c.findings-2.ensures) resolvers))));
    }
