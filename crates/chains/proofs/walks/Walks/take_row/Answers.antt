use Rattle.std.proofs.Common.{get_or}
use Rattle.lemmas.proofs.ListFacts.{get_any}
use Rattle.chains.proofs.WalkingFacts.{taken_all, taken_more, taken_none}
use Rattle.chains.proofs.walks.Walks.take_row.Goals as goal

pub loop-index-init : goal.loop-index-init
loop-index-init c = taken_none c.args.turn c.args.self.now.seen.items c.args.self.now.order.items

pub loop-index-preserved : goal.loop-index-preserved
loop-index-preserved c =
    let row = c.args.row.now in
    let i = c.loop-index.index-index in
    let index = get_or row i 0 in
    taken_more c.args.turn row i index c.args.self.now.seen.items c.loop-index.self.seen.items c.take.new.self.seen.items
    c.args.self.now.order.items c.loop-index.self.order.items c.take.new.self.order.items c.loop-index-test.true (get_any row i 0 index c.loop-index-test.true) c.loop-index.invariant c.in_ok-take.ensures

pub returns : goal.returns
returns c =
    taken_all c.args.turn c.args.row.now c.loop-index.index-index c.args.self.now.seen.items c.loop-index.self.seen.items c.args.self.now.order.items c.loop-index.self.order.items
    c.loop-index-test.false c.loop-index.invariant
