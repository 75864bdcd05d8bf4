use Rattle.bureau.specs.Kept.{IsKeptRun}
use Rattle.connections.proofs.TurnFacts.{last_answered}
use Rattle.connections.proofs.connection.Connection.answer_next.Goals as goal

pub returns-in-Ok-Ends-clause-turn : goal.returns-in-Ok-Ends-clause-turn
returns-in-Ok-Ends-clause-turn g c = record {
  told = λ ours clean this stand.
      let next = c.in-Ok-Ends.ensures.next.told ours clean this stand in
      let served = rw c.in-Ok-Ends.field-0-is at next in
      last_answered (IsKeptRun g.D.Desk.tables_view c.args.desk.now c.serve_next-step.new.desk) this c.args.self.now c.put_last.new.self c.take-held.result c.new-text.result.items c.serve_next-step.new.writer.items
      c.in-Ok-Ends.note c.requires c.take-held.ensures.taken c.new-text.ensures.items served c.put_last.ensures;
}
