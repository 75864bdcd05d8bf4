use Rattle.std.proofs.Common.{◌∙◌, ◌++◌, ◌∷◌, [], ℕ, Option, Some, get_or, take, subst, sym, ap, arith}
use Rattle.requisites.proofs.TestFacts.{from_true, from_false}
use Rattle.requisites.proofs.OpenFacts.{IsLeastSoFar, least_begins, least_skips, least_takes, least_step}
use Rattle.requisites.proofs.good.least_open_need.Goals as goal
use Rattle.requisites.proofs.good.least_open_need.Goals.{then-not-is_met, else-not-is_met}

pub loop-need-init : goal.loop-need-init
loop-need-init c = least_begins c.args.nodes.now c.args.givers.now

pub loop-need-preserved : goal.loop-need-preserved
loop-need-preserved c =
    let nodes = c.args.nodes.now in
    let givers = c.args.givers.now in
    let needs = c.needs_of-need-items.result.now in
    let i = c.loop-need.need-index in
    let need = get_or needs i 0 in
    let P : Option ℕ → Type 0 = λ o. IsLeastSoFar nodes givers (take i needs ++ need ∷ []) o in
    least_step nodes givers needs i c.if-not-is_met.least (omega arith)
    (elim c.if-not-is_met.branch [
      | then-not-is_met w ↦
          subst P (sym (w.least-is ∙ ap (λ (k : ℕ). Some k) w.lesser.ensures))
          (least_takes nodes givers (take i needs) c.loop-need.least need c.loop-need.invariant (from_false c.is_met.result c.is_met.ensures.no w.if-not-is_met.true))
      | else-not-is_met w ↦
          subst P (sym w.least-is)
          (least_skips nodes givers (take i needs) c.loop-need.least need c.loop-need.invariant (from_true c.is_met.result c.is_met.ensures.yes w.if-not-is_met.false))
    ])
