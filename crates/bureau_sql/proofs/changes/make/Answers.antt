use Rattle.std.proofs.Common.{rules}
use Rattle.sql_writes.specs.Room.{IsRoomy}
use Rattle.bureau_sql.proofs.CommitFacts.{transaction_made}
use Rattle.bureau_sql.proofs.FailingFacts.{leads_on, transaction_excused}
use Rattle.bureau_sql.proofs.changes.make.Goals as goal

pub returns-clause-committed : goal.returns-clause-committed
returns-clause-committed g c =
    let made = transaction_made g.S.Store c.args.conn.now c.begin-tx.result.conn.now c.write-written.new.tx.conn.now c.end.new.tx.0 _ c.begin-tx.ensures.begun
    c.begin-tx.ensures.settled c.write-written.result c.end.result c.write-written.ensures.changes
    c.end.ensures.written c.end.ensures.refused c.end.ensures.survives in
    search (rules, made)

pub returns-clause-excused : goal.returns-clause-excused
returns-clause-excused g c most fit room =
    let excused = transaction_excused g.S.Store c.args.conn.now c.begin-tx.result.conn.now c.write-written.new.tx.conn.now c.end.new.tx.0 (IsRoomy most) (λ database. Unit {0}) c.begin-tx.ensures.begun
    c.begin-tx.ensures.settled c.write-written.result c.end.result (leads_on _ _ _ _ (IsRoomy most) c.write-written.ensures.changes) (c.write-written.ensures.excused most fit room)
    c.end.ensures.fails _ c.end.ensures.survives in
    search (rules, excused)
