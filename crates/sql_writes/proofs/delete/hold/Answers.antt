use Rattle.sql_writes.proofs.GoneFacts.{holds_go}
use Rattle.sql_writes.proofs.LeaveFacts.{holds_leave}
use Rattle.sql_writes.proofs.delete.hold.Goals as goal

pub returns-clause-changes : goal.returns-clause-changes
returns-clause-changes g c =
    holds_go _ _ _ _ c.args.key.now c.id_of.result c.hold_kind_value.result c.id_of-2.result c.id_of.ensures.is_id c.id_of-2.ensures.is_id c.id_of.ensures.value c.hold_kind_value.ensures c.id_of-2.ensures.value
    c.deletion.ensures c.run.ensures.ran

pub returns-clause-takes : goal.returns-clause-takes
returns-clause-takes g c =
    holds_leave _ _ _ _ c.args.key.now c.id_of.result c.hold_kind_value.result c.id_of-2.result c.id_of.ensures.value c.hold_kind_value.ensures c.id_of-2.ensures.value c.deletion.ensures c.run.ensures.ran c.run.ensures.fails
