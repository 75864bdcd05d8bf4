use Rattle.std.proofs.Common.{get_or, arith}
use Rattle.std.proofs.lemmas.List.Elements.{Contains-get_or}
use Rattle.requisites.proofs.CascadeFacts.{open_shut}
use Rattle.requisites.proofs.cascade.close.Goals as goal

pub returns-in_err-wake-clause-opens : goal.returns-in_err-wake-clause-opens
returns-in_err-wake-clause-opens c =
    open_shut c.args.nodes.now c.args.ring.now c.loop-node.opening.open.items c.shut.new.opening.open.items (get_or c.args.ring.now c.loop-node.node-index 0)
    c.requires.ungiven (Contains-get_or c.args.ring.now c.loop-node.node-index 0 (omega arith)) c.loop-node.invariant.opens c.shut.ensures

pub loop-node-preserved : goal.loop-node-preserved
loop-node-preserved c = record {
  opens = open_shut c.args.nodes.now c.args.ring.now c.loop-node.opening.open.items c.shut.new.opening.open.items (get_or c.args.ring.now c.loop-node.node-index 0)
      c.requires.ungiven (Contains-get_or c.args.ring.now c.loop-node.node-index 0 (omega arith)) c.loop-node.invariant.opens c.shut.ensures;
  fewer = omega (arith, c.loop-node.invariant.fewer, c.shut.ensures.fewer);
}
