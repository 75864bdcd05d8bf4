use Rattle.std.proofs.Common.{◌≡◌, length, subst, arith, ℕ}
use Rattle.chains.specs.FrameIndices.{AreNodesOf}
use Rattle.chains.proofs.NodeFacts.{nodes_more}
use Rattle.chains.proofs.frame_nodes.frame_nodes.Goals as goal

pub loop-index-preserved : goal.loop-index-preserved
loop-index-preserved c =
    nodes_more c.args.ids.now c.args.all.now c.args.above.now c.loop-index.index c.in_ok-node_at.field-0 c.loop-index.nodes.items _
    c.loop-index-test.true c.requires.len c.requires.indexed c.in_ok-node_at.ensures c.loop-index.invariant c.in_ok-push.ensures.items

pub returns : goal.returns
returns c =
    let all : c.loop-index.index ≡ length c.args.ids.now = omega arith in
    let P : ℕ → Type 0 = λ n. AreNodesOf c.args.ids.now c.args.all.now n c.loop-index.nodes.items in
    subst P all c.loop-index.invariant
