use Rattle.lemmas.proofs.ResultFacts.{ok_so}
use Rattle.requisites.proofs.MarkingFacts.{plan_of_one}
use Rattle.requisites.proofs.chosen.chosen_plan.Goals as goal

pub returns-clause-chosen : goal.returns-clause-chosen
returns-clause-chosen c =
    let x = c.args.node in
    ok_so c.chosen_plans.result c.chosen_plans.ensures.chosen
    (λ plan are. plan_of_one c.args.nodes.now x plan.items (c.requires.good.marked x c.requires.marked) are)
