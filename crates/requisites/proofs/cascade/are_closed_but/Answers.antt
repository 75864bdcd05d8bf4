use Rattle.std.proofs.Common.{arith}
use Rattle.requisites.proofs.CascadeFacts.{closed_but_all, closed_but_more, closed_but_none}
use Rattle.requisites.proofs.TestFacts.{from_true}
use Rattle.requisites.proofs.cascade.are_closed_but.Goals as goal

pub loop-node-init : goal.loop-node-init
loop-node-init c = closed_but_none c.args.opens.now c.args.ring.now

pub loop-node-preserved : goal.loop-node-preserved
loop-node-preserved c = closed_but_more c.args.opens.now c.args.ring.now c.args.indices.now c.loop-node.node-index (omega arith) c.loop-node.invariant (from_true c.is_closed_or_in.result c.is_closed_or_in.ensures c.if-not-is_closed_or_in.false)

pub returns : goal.returns
returns c = closed_but_all c.args.opens.now c.args.ring.now c.args.indices.now c.loop-node.node-index (omega arith) c.loop-node.invariant
