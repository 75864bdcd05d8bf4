use Rattle.std.proofs.Common.{length, arith}
use Rattle.requisites.specs.Reversed.{filled}
use Rattle.requisites.proofs.ReversedFacts.{come_next, reversed_all, room_row, turned_more, turned_none}
use Rattle.requisites.proofs.reversed.fill.Goals as goal

pub loop-node-init : goal.loop-node-init
loop-node-init c = record {
  places = c.requires.places;
  as_many = c.requires.as_many;
  turned = turned_none c.args.lists.now c.args.rows.now c.args.left.now c.requires.places c.requires.none;
}

pub put_row-requires-clause-room : goal.put_row-requires-clause-room
put_row-requires-clause-room c = room_row c.args.lists.now c.loop-node.node c.row.result.now c.loop-node.left (omega arith) c.row.ensures c.loop-node.invariant.as_many

pub loop-node-preserved : goal.loop-node-preserved
loop-node-preserved c = record {
  places = c.put_row.ensures.places;
  as_many = come_next c.args.lists.now c.loop-node.node c.row.result.now c.loop-node.left c.put_row.new.left (omega arith) c.row.ensures c.loop-node.invariant.as_many c.put_row.ensures.taken;
  turned = turned_more c.args.lists.now (length c.args.left.now) c.loop-node.node c.row.result.now (filled c.loop-node.left c.loop-node.rows) (filled c.put_row.new.left c.put_row.new.rows) c.row.ensures c.loop-node.invariant.turned c.put_row.ensures.added;
}

pub returns : goal.returns
returns c = reversed_all c.args.lists.now (length c.args.left.now) c.loop-node.node c.loop-node.left c.loop-node.rows (omega arith) c.loop-node.invariant.places c.loop-node.invariant.as_many c.loop-node.invariant.turned
