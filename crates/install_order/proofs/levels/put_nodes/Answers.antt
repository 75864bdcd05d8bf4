use Rattle.std.proofs.Common.{◌≡◌, ◌∙◌, Option, ℕ, length, sym, subst}
use Rattle.install_order.specs.Levels.{IsPutBy, lists_in}
use Rattle.install_order.proofs.RowFacts.{lists_len, one_more_put}
use Rattle.install_order.proofs.levels.put_nodes.Goals as goal

pub loop-node-preserved : goal.loop-node-preserved
loop-node-preserved c =
    let i = c.loop-node.node in
    let old = lists_in c.loop-node.nodes in
    let new = lists_in c.put_node.new.nodes in
    let P : Option ℕ → Type 0 = λ o. IsPutBy o i old new in
    let len : length new ≡ length old = lists_len c.put_node.new.nodes ∙ c.in_ok-put_node.ensures.len ∙ sym (lists_len c.loop-node.nodes) in (
      one_more_put c.args.levels.now i old new len c.loop-node.invariant.0 (subst P c.level_at.ensures c.in_ok-put_node.ensures.put),
      c.in_ok-put_node.ensures.len ∙ c.loop-node.invariant.1,
    )
