use Rattle.std.proofs.Common.{refl}
use Rattle.sqlite_value.specs.declared.value.ValueRef.TheVariants as lent
use Rattle.sql_writes.proofs.ComeFacts.{changes_come}
use Rattle.sql_writes.proofs.RoomFacts.{last_takes}
use Rattle.sql_writes.proofs.insert.last_change.Goals as goal

pub returns-clause-changes : goal.returns-clause-changes
returns-clause-changes g c =
    changes_come _ _ _ _ c.args.name.now (record { number = c.args.number; reply = c.args.reply.now }) c.id_of.result c.number_of.result (lent.Blob c.args.reply) c.id_of.ensures.value c.number_of.ensures refl (λ _. c.insertion.ensures) c.run.ensures.ran

pub returns-clause-takes : goal.returns-clause-takes
returns-clause-takes g c =
    last_takes _ _ _ _ c.args.name.now (record { number = c.args.number; reply = c.args.reply.now }) c.id_of.result c.number_of.result (lent.Blob c.args.reply) c.id_of.ensures.is_id c.id_of.ensures.value c.number_of.ensures refl (λ _. c.insertion.ensures) c.run.ensures.ran c.run.ensures.fails
