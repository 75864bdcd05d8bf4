use Rattle.std.proofs.Common.{◌≡◌, ◌∙◌, List, ℕ, sym, ap, subst}
use Rattle.lemmas.proofs.ResultFacts.{ok_so}
use Rattle.catalogue.specs.Ids.{in_order}
use Rattle.catalogue.proofs.IdFacts.{in_order_has}
use Rattle.zone_plans.specs.Findings.{AreFoundOf}
use Rattle.zone_plans.specs.Members.{joined}
use Rattle.zone_plans.proofs.FindingFacts.{found_among, members_found, resolvers_found}
use Rattle.plan_reports.specs.Found.{IsTold}
use Rattle.plan_reports.specs.Members.{member_at}
use Rattle.plan_reports.proofs.FoundFacts.{candidates_in, is_told}
use Rattle.plan_reports.proofs.members.plan_members.Goals as goal

pub told_members-requires-clause-ids : goal.told_members-requires-clause-ids
told_members-requires-clause-ids c =
    c.in_ok-found.ensures.ids ∙ c.in_ok-ids.ensures.ids ∙ ap (λ (s : List (List (List ℕ))). in_order (joined s)) c.steps.ensures

pub returns : goal.returns
returns c =
    let received = c.args.received.now in
    let plan = c.args.plan.now in
    let found = c.in_ok-found.found in
    let listed : c.in_ok-ids.ids.items ≡ in_order (joined plan.steps) = c.in_ok-ids.ensures.ids ∙ ap (λ (s : List (List (List ℕ))). in_order (joined s)) c.steps.ensures in
    let ids : found.ids ≡ in_order (joined plan.steps) = c.in_ok-found.ensures.ids ∙ listed in
    ok_so c.told_members.result c.told_members.ensures (λ members told. λ content rows holds is.
    let all = members_found content rows holds plan is in
    let read : AreFoundOf content rows plan.findings (in_order (joined plan.steps)) =
    found_among content rows plan.findings (joined plan.steps) (in_order (joined plan.steps)) all (λ id inside. (in_order_has (joined plan.steps) id).0 inside) in
    let F : List (List ℕ) → Type 0 = λ l. AreFoundOf content rows plan.findings l in
    let I : List (List ℕ) → Type 0 = λ l. IsTold content rows received plan found (member_at content rows received plan.resolved l) in
    let are = c.in_ok-found.ensures.found content rows (subst F (sym listed) read) (resolvers_found content rows holds plan is) in
    told content rows (member_at content rows received plan.resolved (in_order (joined plan.steps)))
    (subst I ids (is_told content rows received plan found are (subst F (sym ids) read) (candidates_in content rows plan.steps found.ids ids is.steps.plan))))
