use Rattle.std.proofs.Common.{◌∙◌, ◌∷◌, [], ◌++◌, List, ℕ, ap, subst, arith}
use Rattle.requisites.specs.Nodes.{row}
use Rattle.verdicts.proofs.IndexFacts.{rows_more}
use Rattle.zone_plans.specs.Climbs.{IsMirrored, mirror}
use Rattle.zone_plans.proofs.MirrorFacts.{rows_mirrored}
use Rattle.zone_plans.proofs.others.mirrored_rows.Goals as goal

pub loop-node-preserved : goal.loop-node-preserved
loop-node-preserved c =
    let n = c.args.len in
    let i = c.loop-node.node in
    let lists = c.args.lists.now in
    let own = c.put_mirrored.new.own.items in
    let P : List ℕ → Type 0 = λ l. IsMirrored n l own in
    rows_more (λ p r. IsMirrored n (row lists (mirror n p)) r) i c.loop-node.rows c.push_row.new.self own c.loop-node.invariant
    (subst P (c.row.ensures ∙ ap (row lists) c.mirror.ensures) c.in_ok-put_mirrored.ensures)
    (c.in_ok-push_row.ensures.rows ∙ ap (λ (r : List ℕ). c.loop-node.rows ++ r ∷ []) c.deref.ensures.value)

pub returns : goal.returns
returns c = rows_mirrored c.args.len c.loop-node.node c.args.lists.now c.loop-node.rows (omega (arith, c.loop-node-test.false)) c.loop-node.invariant
