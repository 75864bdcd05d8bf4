use Rattle.std.proofs.Common.{ap}
use Rattle.sqlite.specs.declared.types.Value.TheVariants.{Text}
use Rattle.sqlite_value.specs.declared.value.ValueRef.TheVariants as lent
use Rattle.sql_writes.proofs.ComeFacts.{callers_come}
use Rattle.sql_writes.proofs.FoundFacts.{caller_comes, caller_excused}
use Rattle.sql_writes.proofs.insert.caller.Goals as goal

pub returns-clause-opened : goal.returns-clause-opened
returns-clause-opened g c before =
    caller_comes _ _ _ _ c.args.row.now c.id_of.result (lent.Text c.as_bytes.result) c.id_of.ensures.value (ap Text c.as_bytes.ensures) c.insertion.ensures before c.run.ensures.ran

pub returns-clause-excused : goal.returns-clause-excused
returns-clause-excused g c before fit =
    caller_excused _ _ _ _ c.args.row.now c.id_of.result (lent.Text c.as_bytes.result) c.id_of.ensures.value (ap Text c.as_bytes.ensures) c.insertion.ensures before fit c.run.ensures.fails

pub returns-clause-changes : goal.returns-clause-changes
returns-clause-changes g c =
    callers_come _ _ _ _ c.args.row.now c.id_of.result (lent.Text c.as_bytes.result) c.id_of.ensures.value (ap Text c.as_bytes.ensures) (λ _. c.insertion.ensures) c.run.ensures.ran
