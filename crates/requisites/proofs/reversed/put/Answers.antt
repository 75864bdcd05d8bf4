use Rattle.std.proofs.Common.{◌≡◌, ◌∙◌, ◌+◌, ◌-◌, ◌<◌, ℕ, List, [], ◌∷◌, ap, get_or, length, set, subst, sym, arith}
use Rattle.std.proofs.lemmas.List.{get_or-set_same}
use Rattle.requisites.specs.Nodes.{row}
use Rattle.requisites.specs.Reversed.{RowAdded, filled}
use Rattle.requisites.proofs.ReversedFacts.{added_past, added_put, times_same}
use Rattle.requisites.proofs.reversed.put.Goals as goal

pub returns-then-below-left-clause-added : goal.returns-then-below-left-clause-added
returns-then-below-left-clause-added c =
    let left = c.args.left.now in
    let rows = c.args.rows.now in
    let b = c.args.below in
    let k = get_or left b 0 - 1 in
    let inside : b < length left = omega arith in
    let at : k + 1 ≡ get_or left b 0 = omega (arith, c.requires.room b inside, times_same b) in
    let P : List (List ℕ) → Type 0 = λ r. RowAdded (b ∷ []) c.args.node (filled left rows) (filled (set left b k) r) in
    subst P (sym (c.put.ensures ∙ ap (λ (i : ℕ). set rows b (set (row rows b) i c.args.node)) (get_or-set_same left b k 0 inside)))
    (added_put left rows b k c.args.node c.requires.places inside at)

pub returns-else-below-left-clause-added : goal.returns-else-below-left-clause-added
returns-else-below-left-clause-added c = added_past c.args.left.now c.args.rows.now c.args.below c.args.node c.requires.places (omega arith)
