use Rattle.std.proofs.Common.{◌≡◌, ◌+◌, length, arith}
use Rattle.requisites.specs.Spread.{sourceless}
use Rattle.requisites.proofs.SpreadFacts.{spreading_starts, spreading_steps, work_falls}
use Rattle.requisites.proofs.sources.spread.Goals as goal

pub loop-node-init : goal.loop-node-init
loop-node-init c =
    spreading_starts c.args.lists.now c.args.start c.args.sources.now c.take_row.new.sources c.args.work.now.items c.take_row.new.work.items
    c.requires.idle c.requires.closed c.in_ok-take_row.ensures

pub loop-node-smaller : goal.loop-node-smaller
loop-node-smaller c =
    let count : length c.take_row-in-Some.new.work.items + sourceless c.take_row-in-Some.new.sources ≡ length c.pop.new.self.items + sourceless c.loop-node.sources = c.in_ok-take_row-2.ensures.count in
    work_falls (sourceless c.loop-node.sources) (sourceless c.take_row-in-Some.new.sources) (length c.loop-node.work.items) (length c.pop.new.self.items) (length c.take_row-in-Some.new.work.items)
    c.in_ok-take_row-2.ensures.grows count (omega (arith, c.in-Some.ensures.len))

pub loop-node-preserved : goal.loop-node-preserved
loop-node-preserved c =
    spreading_steps c.args.lists.now c.args.start c.in-Some.node c.args.sources.now c.loop-node.sources c.take_row-in-Some.new.sources
    c.row.result.now c.loop-node.work.items c.pop.new.self.items c.take_row-in-Some.new.work.items
    c.loop-node.invariant c.in-Some.ensures.items c.row.ensures c.in_ok-take_row-2.ensures
