use Rattle.std.proofs.Common.{inl, inr}
use Rattle.sqlite.specs.Held.{state}
use Rattle.sql_checks.specs.Refused.{IsUncounted, IsUnsaid, SaysLast, SaysZones, of_last, of_zones}
use Rattle.sql_checks.proofs.CauseFacts.{caused_so, later_caused}
use Rattle.sql_checks.proofs.asked.caller_tally.Goals as goal

pub returns-in-Err-zones-clause-cause : goal.returns-in-Err-zones-clause-cause
returns-in-Err-zones-clause-cause g c =
    let name = c.args.name.now in
    later_caused (IsUnsaid (of_zones name) SaysZones) (IsUncounted name) (state g.S.Store c.args.conn.now) (state g.S.Store c.last.new.conn) (state g.S.Store c.zones.new.conn)
    c.in-Err-zones.fault (λ limit database why. inr why) c.in-Ok.ensures.finds.reads (λ clean on. c.in-Ok.ensures.finds.is_open clean) c.in-Err-zones.ensures.finds.reads
    c.in-Err-zones.ensures.cause

pub returns-in-Err-clause-cause : goal.returns-in-Err-clause-cause
returns-in-Err-clause-cause g c device clean =
    let name = c.args.name.now in
    caused_so (IsUnsaid (of_last name) SaysLast) (IsUncounted name) (state g.S.Store c.args.conn.now) (state g.S.Store c.last.new.conn) (λ limit database why. inl why)
    (c.in-Err.ensures.cause device clean)
