use Rattle.std.proofs.Common.{◌≡◌, ◌∙◌, ◌∷◌, [], ◌++◌, ◌+◌, List, ℕ, get_or, take, sym, ap, subst, arith}
use Rattle.std.specs.Global.{Vec}
use Rattle.std.proofs.lemmas.List.{take_all}
use Rattle.lemmas.proofs.ListFacts.{get_any}
use Rattle.zone_plans.specs.Climbs.{IsMirrored}
use Rattle.zone_plans.proofs.MirrorFacts.{mirrored_more, mirrored_past}
use Rattle.zone_plans.proofs.others.put_mirrored.Goals.{then-node-len+in_ok-push, else-node-len}
use Rattle.zone_plans.proofs.others.put_mirrored.Goals as goal

pub loop-node-preserved : goal.loop-node-preserved
loop-node-preserved c =
    let n = c.args.len in
    let row = c.args.row.now in
    let i = c.loop-node.node-index in
    let was = c.loop-node.own.items in
    let x = get_or row i 0 in
    let below = c.loop-node-test.true in
    let at : x ≡ get_or row i x = get_any row i 0 x below in
    let P : Vec ℕ → Type 0 = λ v. IsMirrored n (take (i + 1) row) v.items in
    elim c.if-node-len.branch [
      | then-node-len+in_ok-push w ↦ subst P (sym w.own-is) (mirrored_more n row i x was w.push.new.self.items below at w.if-node-len.true c.loop-node.invariant (w.in_ok-push.ensures.items ∙ ap (λ (k : ℕ). was ++ k ∷ []) w.mirror.ensures))
      | else-node-len w ↦ subst P (sym w.own-is) (mirrored_past n row i x was below at (omega (arith, w.if-node-len.false)) c.loop-node.invariant)
    ]

pub returns : goal.returns
returns c =
    let P : List ℕ → Type 0 = λ l. IsMirrored c.args.len l c.loop-node.own.items in
    subst P (take_all c.loop-node.node-index c.args.row.now (omega (arith, c.loop-node-test.false))) c.loop-node.invariant
