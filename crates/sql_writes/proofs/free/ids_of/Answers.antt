use Rattle.sql_writes.proofs.FreeFacts.{longer_ids, more_ids}
use Rattle.sql_writes.proofs.free.ids_of.Goals as goal

pub loop-change-preserved : goal.loop-change-preserved
loop-change-preserved c = record {
  ids = longer_ids c.args.changes.now c.loop-change.change-index c.change-item.result _ _ c.loop-change-test.true c.change-item.is c.loop-change.invariant.ids c.in_ok-add_id.ensures.more;
  are_ids = more_ids c.args.changes.now c.loop-change.change-index c.change-item.result c.loop-change-test.true c.change-item.is c.loop-change.invariant.are_ids c.add_id.ensures.is_id;
}
