use Rattle.std.proofs.Common.{Ok, subst}
use Rattle.sqlite.specs.Held.{state}
use Rattle.sql_checks.specs.Checked.{Finds, IsFound}
use Rattle.sql_reads.specs.declared.fault.ReadFault.{ReadFault}
use Rattle.store_runs.proofs.CheckFacts.{check_refused, seen_whole, tally_refused}
use Rattle.store_runs.proofs.checking.look.Goals as goal

pub returns-in-Ok-tally-clause-whole : goal.returns-in-Ok-tally-clause-whole
returns-in-Ok-tally-clause-whole g c =
    let old = state g.S.Store c.args.conn.now in
    let mid = state g.S.Store c.check.new.conn in
    seen_whole old mid (state g.S.Store c.tally.new.conn) c.in-Ok-tally.text
    (subst (λ finding. Finds {Fault = ReadFault} old mid (Ok finding) IsFound) c.in-Ok-Whole.field-0-is c.in-Ok-Whole.ensures.finds) c.in-Ok-tally.ensures.looks

pub returns-in-Err-tally-clause-wrong : goal.returns-in-Err-tally-clause-wrong
returns-in-Err-tally-clause-wrong g c =
    let old = state g.S.Store c.args.conn.now in
    let mid = state g.S.Store c.check.new.conn in
    tally_refused old mid (state g.S.Store c.tally.new.conn) c.in-Err-tally.fault c.unread.result c.unread.ensures
    (subst (λ finding. Finds {Fault = ReadFault} old mid (Ok finding) IsFound) c.in-Ok-Whole.field-0-is c.in-Ok-Whole.ensures.finds) c.in-Err-tally.ensures.looks.reads c.in-Err-tally.ensures.cause

pub returns-in-Err-clause-wrong : goal.returns-in-Err-clause-wrong
returns-in-Err-clause-wrong g c =
    check_refused (state g.S.Store c.args.conn.now) (state g.S.Store c.check.new.conn) c.in-Err.fault c.unread-in-Err.result c.unread-in-Err.ensures c.in-Err.ensures.cause
