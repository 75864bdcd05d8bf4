use Rattle.std.proofs.Common.{rules}
use Rattle.sql_writes.specs.Making.{IsEmpty, IsOpened}
use Rattle.bureau_sql.proofs.FailingFacts.{transaction_excused}
use Rattle.bureau_sql.proofs.FoundedFacts.{transaction_led}
use Rattle.bureau_sql.proofs.making.found.Goals as goal

pub returns-clause-led : goal.returns-clause-led
returns-clause-led g c =
    let led = transaction_led g.S.Store c.args.conn.now c.begin-tx.result.conn.now c.create-written.new.tx.conn.now c.end.new.tx.0 _ _ c.begin-tx.ensures.begun
    c.begin-tx.ensures.settled c.create-written.result c.end.result c.create-written.ensures.made
    c.end.ensures.written c.end.ensures.refused c.end.ensures.survives in
    search (rules, led)

pub returns-clause-excused : goal.returns-clause-excused
returns-clause-excused g c fit =
    let excused = transaction_excused g.S.Store c.args.conn.now c.begin-tx.result.conn.now c.create-written.new.tx.conn.now c.end.new.tx.0 IsEmpty (IsOpened c.args.callers.now)
    c.begin-tx.ensures.begun c.begin-tx.ensures.settled c.create-written.result c.end.result c.create-written.ensures.made (c.create-written.ensures.excused fit)
    c.end.ensures.fails _ c.end.ensures.survives in
    search (rules, excused)
