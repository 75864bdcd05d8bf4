use Rattle.std.proofs.Common.{rules}
use Rattle.bureau_sql.proofs.CommitFacts.{transaction_made}
use Rattle.bureau_sql.proofs.set_callers.replace.Goals as goal

pub returns-clause-committed : goal.returns-clause-committed
returns-clause-committed g c =
    let made = transaction_made g.S.Store c.args.conn.now c.begin-tx.result.conn.now c.set_callers-written.new.tx.conn.now c.end.new.tx.0 _ c.begin-tx.ensures.begun
    c.begin-tx.ensures.settled c.set_callers-written.result c.end.result c.set_callers-written.ensures.changes
    c.end.ensures.written c.end.ensures.refused c.end.ensures.survives in
    search (rules, made)
