use Rattle.std.proofs.Common.{◌≡◌, ◌+◌, ◌<◌, ◌++◌, ◌∷◌, [], take, get_or, length, arith}
use Rattle.std.proofs.lemmas.List.{take_more}
use Rattle.requisites.proofs.SpreadFacts.{taken_none, taken_more}
use Rattle.requisites.proofs.sources.take_row.Goals as goal

pub loop-node-init : goal.loop-node-init
loop-node-init c = taken_none c.args.source c.args.sources.now c.args.work.now.items

pub loop-node-preserved : goal.loop-node-preserved
loop-node-preserved c =
    let i = c.loop-node.node-index in
    let inside : i < length c.args.row.now = omega arith in
    let longer : take (i + 1) c.args.row.now ≡ take i c.args.row.now ++ get_or c.args.row.now i 0 ∷ [] = take_more c.args.row.now i 0 inside in
    rw longer (taken_more (take i c.args.row.now) c.args.source (get_or c.args.row.now i 0) c.args.sources.now c.loop-node.sources c.take_node.new.sources c.args.work.now.items c.loop-node.work.items c.take_node.new.work.items c.loop-node.invariant c.in_ok-take_node.ensures)
