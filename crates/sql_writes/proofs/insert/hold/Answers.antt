use Rattle.sql_writes.proofs.ComeFacts.{holds_come}
use Rattle.sql_writes.proofs.RoomFacts.{hold_takes}
use Rattle.sql_writes.proofs.insert.hold.Goals as goal

pub returns-clause-changes : goal.returns-clause-changes
returns-clause-changes g c =
    holds_come _ _ _ _ c.args.hold.now c.id_of.result c.hold_kind_value.result c.id_of-2.result c.optional_id_value.result c.optional_id_value-2.result c.date_value.result c.optional_id_value-3.result c.categories_value.result
    c.id_of.ensures.value c.hold_kind_value.ensures c.id_of-2.ensures.value c.optional_id_value.ensures c.optional_id_value-2.ensures c.date_value.ensures c.optional_id_value-3.ensures c.categories_value.ensures
    (λ _. c.insertion.ensures) c.run.ensures.ran

pub returns-clause-takes : goal.returns-clause-takes
returns-clause-takes g c =
    hold_takes _ _ _ _ c.args.hold.now c.id_of.result c.hold_kind_value.result c.id_of-2.result c.optional_id_value.result c.optional_id_value-2.result c.date_value.result c.optional_id_value-3.result c.categories_value.result
    c.id_of.ensures.value c.hold_kind_value.ensures c.id_of-2.ensures.value c.optional_id_value.ensures c.optional_id_value-2.ensures c.date_value.ensures c.optional_id_value-3.ensures c.categories_value.ensures
    (λ _. c.insertion.ensures) c.run.ensures.ran c.run.ensures.fails
