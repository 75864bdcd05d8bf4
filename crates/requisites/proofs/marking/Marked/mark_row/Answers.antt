use Rattle.std.proofs.Common.{get_or, refl}
use Rattle.requisites.proofs.MarkingFacts.{marked_all, marked_more, marked_none}
use Rattle.requisites.proofs.marking.Marked.mark_row.Goals as goal

pub loop-node-init : goal.loop-node-init
loop-node-init c = marked_none c.args.self.now.marks.items c.args.self.now.order.items

pub loop-node-preserved : goal.loop-node-preserved
loop-node-preserved c =
    let row = c.args.row.now in
    let i = c.loop-node.node-index in
    let node = get_or row i 0 in
    marked_more row i node c.args.self.now.marks.items c.loop-node.self.marks.items c.mark.new.self.marks.items
    c.args.self.now.order.items c.loop-node.self.order.items c.mark.new.self.order.items c.loop-node-test.true refl c.loop-node.invariant c.in_ok-mark.ensures

pub returns : goal.returns
returns c =
    marked_all c.args.row.now c.loop-node.node-index c.args.self.now.marks.items c.loop-node.self.marks.items c.args.self.now.order.items c.loop-node.self.order.items
    c.loop-node-test.false c.loop-node.invariant
