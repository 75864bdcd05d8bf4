use Rattle.std.proofs.Common.{arith}
use Rattle.requisites.specs.Reversed.{filled}
use Rattle.requisites.proofs.ReversedFacts.{added_all, added_more, added_none, room_next, taken_all, taken_more, taken_none}
use Rattle.requisites.proofs.reversed.put_row.Goals as goal

pub loop-below-init : goal.loop-below-init
loop-below-init c = record {
  places = c.requires.places;
  taken = taken_none c.args.left.now;
  added = added_none c.args.node (filled c.args.left.now c.args.rows.now);
}

pub put-requires-clause-room : goal.put-requires-clause-room
put-requires-clause-room c = room_next c.args.listed.now c.loop-below.below-index c.args.left.now c.loop-below.left (omega arith) c.requires.room c.loop-below.invariant.taken

pub loop-below-preserved : goal.loop-below-preserved
loop-below-preserved c = record {
  places = c.put.ensures.places;
  taken = taken_more c.args.listed.now c.loop-below.below-index c.args.left.now c.loop-below.left c.put.new.left (omega arith) c.loop-below.invariant.taken c.put.ensures.taken;
  added = added_more c.args.listed.now c.loop-below.below-index c.args.node (filled c.args.left.now c.args.rows.now) (filled c.loop-below.left c.loop-below.rows) (filled c.put.new.left c.put.new.rows) (omega arith) c.loop-below.invariant.added c.put.ensures.added;
}

pub returns-clause-taken : goal.returns-clause-taken
returns-clause-taken c = taken_all c.args.listed.now c.loop-below.below-index c.args.left.now c.loop-below.left (omega arith) c.loop-below.invariant.taken

pub returns-clause-added : goal.returns-clause-added
returns-clause-added c = added_all c.args.listed.now c.loop-below.below-index c.args.node (filled c.args.left.now c.args.rows.now) (filled c.loop-below.left c.loop-below.rows) (omega arith) c.loop-below.invariant.added
