use Rattle.std.proofs.Common.{◌∙◌, ap}
use Rattle.requisites.proofs.TestFacts.{from_true, from_false}
use Rattle.install_order.proofs.RingFacts.{reached_more, reached_skip}
use Rattle.install_order.proofs.rings.left_with_source.Goals as goal
use Rattle.install_order.proofs.rings.left_with_source.Goals.{then-is_reached+in_ok-push, else-is_reached}

pub loop-node-preserved : goal.loop-node-preserved
loop-node-preserved c =
    let left = c.args.left.now in
    let sources = c.args.sources.now in
    let i = c.loop-node.node in
    let nodes = c.loop-node.nodes.items in
    elim c.if-is_reached.branch [
      | then-is_reached+in_ok-push w ↦
          reached_more left sources i nodes c.if-is_reached.nodes.items (ap (λ v. v.items) w.nodes-is ∙ w.in_ok-push.ensures.items)
          (from_true c.is_reached.result c.is_reached.ensures.yes w.if-is_reached.true) c.loop-node.invariant
      | else-is_reached w ↦
          reached_skip left sources i nodes c.if-is_reached.nodes.items (ap (λ v. v.items) w.nodes-is)
          (from_false c.is_reached.result c.is_reached.ensures.no w.if-is_reached.false) c.loop-node.invariant
    ]
