use Rattle.std.proofs.Common.{◌∙◌, false, get_or, set, take, sym}
use Rattle.install_order.proofs.PutFacts.{out_none, out_more, out_same, out_step}
use Rattle.install_order.proofs.putting.take_out.Goals as goal
use Rattle.install_order.proofs.putting.take_out.Goals.{then-is_marked, else-is_marked}

pub loop-node-init : goal.loop-node-init
loop-node-init c = out_none c.args.left.now

pub loop-node-preserved : goal.loop-node-preserved
loop-node-preserved c =
    let nodes = c.args.nodes.now in
    let i = c.loop-node.node-index in
    let node = get_or nodes i 0 in
    let old = c.args.left.now in
    let left = c.loop-node.left in
    elim c.if-is_marked.branch [
      | then-is_marked w ↦
          out_step nodes i old (set left node false) c.if-is_marked.left c.loop-node-test.true w.left-is
          (out_more (take i nodes) old left node (record { is = sym c.is_marked.ensures ∙ w.if-is_marked.true }) c.loop-node.invariant)
      | else-is_marked w ↦
          out_step nodes i old left c.if-is_marked.left c.loop-node-test.true w.left-is
          (out_same (take i nodes) old left node (sym c.is_marked.ensures ∙ w.if-is_marked.false) c.loop-node.invariant)
    ]
