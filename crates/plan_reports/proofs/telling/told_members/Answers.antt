use Rattle.std.proofs.Common.{◌∙◌, ◌<◌, ◌≤◌, List, [], ℕ, arith, ap, get_or, length, subst}
use Rattle.std.specs.List.{Contains}
use Rattle.std.proofs.lemmas.List.{take_all}
use Rattle.plan_reports.specs.Members.{members_from}
use Rattle.plan_reports.proofs.FoundFacts.{step_listed}
use Rattle.plan_reports.proofs.StepFacts.{steps_more}
use Rattle.plan_reports.proofs.telling.told_members.Goals as goal

pub push_step-requires-clause-listed : goal.push_step-requires-clause-listed
push_step-requires-clause-listed c = λ id inside.
    let steps = c.args.plan.now.steps in
    let L : List (List (List ℕ)) → Type 0 = λ l. c.loop-index.index < length l in
    let below = subst L c.steps-steps.ensures (omega (arith, c.loop-index-test.true, c.len-index-end.ensures)) in
    let P : List (List ℕ) → Type 0 = λ l. Contains l id in
    let step = c.deref.ensures.value ∙ c.in_ok-step.ensures ∙ ap (λ (l : List (List (List ℕ))). get_or l c.loop-index.index []) c.steps-steps.ensures in
    step_listed steps c.args.found.now.ids c.loop-index.index id c.requires.ids below (subst P step inside)

pub loop-index-preserved : goal.loop-index-preserved
loop-index-preserved c = λ content rows at told.
    let L : List (List (List ℕ)) → Type 0 = λ l. c.loop-index.index < length l in
    let below = subst L c.steps-steps.ensures (omega (arith, c.loop-index-test.true, c.len-index-end.ensures)) in
    let step = c.deref.ensures.value ∙ c.in_ok-step.ensures ∙ ap (λ (l : List (List (List ℕ))). get_or l c.loop-index.index []) c.steps-steps.ensures in
    steps_more at c.args.plan.now.steps c.loop-index.index c.deref.result.now c.loop-index.members.items c.push_step.new.members.items below step
    (c.loop-index.invariant content rows at told) (c.in_ok-push_step.ensures content rows at told)

pub returns : goal.returns
returns c = λ content rows at told.
    let L : List (List (List ℕ)) → Type 0 = λ l. length l ≤ c.loop-index.index in
    let past = subst L c.steps-steps.ensures (omega (arith, c.len-index-end.ensures)) in
    c.loop-index.invariant content rows at told ∙ ap (members_from at 1) (take_all c.loop-index.index c.args.plan.now.steps past)
