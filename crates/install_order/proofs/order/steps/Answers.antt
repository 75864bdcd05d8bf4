use Rattle.std.proofs.Common.{List, Option, ℕ, length, refl, subst}
use Rattle.lemmas.proofs.ResultFacts.{ok_so}
use Rattle.requisites.specs.Nodes.{IsMarked}
use Rattle.install_order.specs.Levels.{AreLevels, AreRows}
use Rattle.install_order.proofs.StepFacts.{are_in_order, are_steps, marked_levels}
use Rattle.install_order.proofs.order.steps.Goals as goal

pub returns-clause-steps : goal.returns-clause-steps
returns-clause-steps c =
    let needs = c.args.needs.now in
    let members = c.args.members.now in
    let levels = c.in_ok-levels.levels.items in
    let are : AreLevels needs (length members) (IsMarked members) levels = marked_levels needs c.in_ok-rings.rings members _ levels c.in_ok-rings.ensures refl c.in_ok-levels.ensures.levels in
    ok_so c.rows_by_level.result c.rows_by_level.ensures (λ steps rows.
    let P : List (Option ℕ) → Type 0 = λ l. AreRows l steps in
    are_steps needs members levels steps are (subst P c.deref.ensures.value rows))

pub returns-clause-order : goal.returns-clause-order
returns-clause-order c =
    let needs = c.args.needs.now in
    let members = c.args.members.now in
    let levels = c.in_ok-levels.levels.items in
    let are : AreLevels needs (length members) (IsMarked members) levels = marked_levels needs c.in_ok-rings.rings members _ levels c.in_ok-rings.ensures refl c.in_ok-levels.ensures.levels in
    ok_so c.rows_by_level.result c.rows_by_level.ensures (λ steps rows.
    let P : List (Option ℕ) → Type 0 = λ l. AreRows l steps in
    are_in_order needs members levels steps are (subst P c.deref.ensures.value rows))
