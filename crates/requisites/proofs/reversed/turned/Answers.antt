use Rattle.std.proofs.Common.{◌≡◌, ◌∙◌, ℕ, List, ap, get_or, subst, arith, length}
use Rattle.std.specs.List.{Contains}
use Rattle.requisites.specs.Nodes.{row}
use Rattle.requisites.specs.Reversed.{filled, times}
use Rattle.requisites.specs.Rows.{blank_rows}
use Rattle.requisites.proofs.ReversedFacts.{none_blank, times_all}
use Rattle.requisites.proofs.reversed.turned.Goals as goal

pub fill-requires-clause-as_many : goal.fill-requires-clause-as_many
fill-requires-clause-as_many c q h =
    ap (λ (l : List ℕ). get_or l q 0) c.deref_mut.ensures.value
    ∙ c.in_ok-left.ensures.times q (omega (arith, h, ap length c.deref_mut.ensures.value, c.in_ok-left.ensures.len))
    ∙ ap (λ (l : List ℕ). times l q) c.all.ensures
    ∙ times_all c.args.lists.now q

pub fill-requires-clause-none : goal.fill-requires-clause-none
fill-requires-clause-none c q p has =
    let left = c.in_ok-left.left.items in
    let same : filled c.deref_mut.result.now c.in_ok-rows.rows ≡ filled left (blank_rows left) =
    ap (λ (l : List ℕ). filled l c.in_ok-rows.rows) c.deref_mut.ensures.value
    ∙ ap (λ (r : List (List ℕ)). filled left r) (c.in_ok-rows.ensures ∙ ap blank_rows c.deref.ensures.value) in
    let P : List (List ℕ) → Type 0 = λ rows. Contains (row rows q) p in
    none_blank left q p (subst P same has)
