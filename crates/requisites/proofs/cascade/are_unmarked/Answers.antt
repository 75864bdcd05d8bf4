use Rattle.std.proofs.Common.{◌∙◌, sym, arith}
use Rattle.requisites.proofs.CascadeFacts.{unmarked_all, unmarked_more, unmarked_none}
use Rattle.requisites.proofs.cascade.are_unmarked.Goals as goal

pub loop-node-init : goal.loop-node-init
loop-node-init c = unmarked_none c.args.marks.now

pub loop-node-preserved : goal.loop-node-preserved
loop-node-preserved c = unmarked_more c.args.marks.now c.args.indices.now c.loop-node.node-index (omega arith) c.loop-node.invariant (sym c.is_marked.ensures ∙ c.if-is_marked.false)

pub returns : goal.returns
returns c = unmarked_all c.args.marks.now c.args.indices.now c.loop-node.node-index (omega arith) c.loop-node.invariant
