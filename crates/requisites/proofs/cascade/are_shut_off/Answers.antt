use Rattle.std.proofs.Common.{arith}
use Rattle.requisites.proofs.CascadeFacts.{shut_off_all, shut_off_more, shut_off_none}
use Rattle.requisites.proofs.TestFacts.{from_true}
use Rattle.requisites.proofs.cascade.are_shut_off.Goals as goal

pub loop-node-init : goal.loop-node-init
loop-node-init c = shut_off_none c.args.around.now.superseders c.args.opens.now c.args.ring.now

pub loop-node-preserved : goal.loop-node-preserved
loop-node-preserved c = shut_off_more c.args.around.now.superseders c.args.opens.now c.args.ring.now c.args.ring.now c.row.result.now c.loop-node.node-index (omega arith) c.loop-node.invariant c.row.ensures (from_true c.are_closed_but.result c.are_closed_but.ensures c.if-not-are_closed_but.false)

pub returns : goal.returns
returns c = shut_off_all c.args.around.now.superseders c.args.opens.now c.args.ring.now c.args.ring.now c.loop-node.node-index (omega arith) c.loop-node.invariant
