use Rattle.std.proofs.Common.{◌∙◌, ◌++◌, ◌∷◌, [], Option, List, ℕ, ap}
use Rattle.verdicts.specs.declared.verdict.Status.TheVariants as status
use Rattle.zone_plans.specs.Choices.{choice}
use Rattle.zone_plans.specs.Plans.{fate_by, hold_on}
use Rattle.zone_plans.specs.declared.holds.HoldOn.{HoldOn}
use Rattle.zone_plans.specs.declared.placing.Placed.{Placed}
use Rattle.zone_plans.specs.declared.placing.Fate.{Fate}
use Rattle.zone_plans.proofs.placing.put_placed.Goals as goal

placed_as : HoldOn → Fate → Placed
placed_as hold fate = record { hold = hold; fate = fate }

pub returns : goal.returns
unfolding placed_as
returns c = λ content climb inside.
    c.in_ok-push.ensures.items ∙ ap (λ (one : Placed). c.args.found.now.items ++ one ∷ [])
    (ap (λ h. placed_as h c.fate_by.result) (c.hold_on.ensures ∙ ap hold_on c.hold.ensures)
    ∙ ap (placed_as (hold_on c.args.hold.now.hold))
    (c.fate_by.ensures ∙ ap (λ (o : Option (List ℕ)). fate_by o c.in_ok-held.held) (c.in_ok-good.ensures content climb inside)
    ∙ ap (fate_by (choice content status.Good c.args.hold.now)) (c.in_ok-held.ensures content climb inside)))
