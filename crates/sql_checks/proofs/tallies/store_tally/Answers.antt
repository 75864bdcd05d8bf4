use Rattle.std.proofs.Common.{◌≡◌, Err, IfErr, inl, inr, refl, rules, subst, sym}
use Rattle.sqlite.specs.Held.{state}
use Rattle.sqlite.specs.State.{HasCleanDisk}
use Rattle.sql_reads.specs.declared.fault.ReadFault.TheVariants.{Device}
use Rattle.sql_checks.specs.Refused.{AreUncounted, AreUntallied, IsCausedBy, IsUntallied}
use Rattle.sql_checks.proofs.CauseFacts.{caused_so, later_caused}
use Rattle.sql_checks.proofs.TallyFacts.{of_list, refused_later, tallied}
use Rattle.sql_checks.proofs.tallies.store_tally.Goals as goal

pub returns-in-Ok-clause-looks : goal.returns-in-Ok-clause-looks
returns-in-Ok-clause-looks g c =
    tallied (state g.S.Store c.args.conn.now) (state g.S.Store c.counts.new.conn) (state g.S.Store c.lines.new.conn) c.in_ok-counts.counts c.args.callers.now c.in-Ok.callers.items
    (record { sysmods = c.in_ok-counts.counts.0; holds = c.in_ok-counts.counts.1; callers = c.in-Ok.callers }) c.in_ok-counts.ensures.finds
    (of_list (state g.S.Store c.counts.new.conn) (state g.S.Store c.lines.new.conn) c.args.callers.now c.in-Ok.callers c.in-Ok.ensures.looks) refl refl refl

pub returns-in-Err-clause-looks : goal.returns-in-Err-clause-looks
returns-in-Err-clause-looks g c =
    refused_later (state g.S.Store c.args.conn.now) (state g.S.Store c.counts.new.conn) (state g.S.Store c.lines.new.conn) c.in-Err.fault _ c.in_ok-counts.ensures.finds.reads c.in-Err.ensures.looks.reads

pub returns-in_err-counts-clause-cause : goal.returns-in_err-counts-clause-cause
returns-in_err-counts-clause-cause g c =
    let old = state g.S.Store c.args.conn.now in
    let new = state g.S.Store c.counts.new.conn in
    let is : c.from_residual.result ≡ Err c.in_err-counts.field-0.0 = search (rules, c.from_residual.ensures) in
    subst (λ result. IfErr result (λ fault. fault ≡ Device → HasCleanDisk new → IsCausedBy (IsUntallied c.args.callers.now) old new)) (sym is)
    (λ device clean. caused_so AreUncounted (IsUntallied c.args.callers.now) old new (λ limit database why. inl why) (c.in_err-counts.ensures.cause device clean))

pub returns-in-Err-clause-cause : goal.returns-in-Err-clause-cause
returns-in-Err-clause-cause g c =
    later_caused (AreUntallied c.args.callers.now) (IsUntallied c.args.callers.now) (state g.S.Store c.args.conn.now) (state g.S.Store c.counts.new.conn) (state g.S.Store c.lines.new.conn) c.in-Err.fault
    (λ limit database why. inr why) c.in_ok-counts.ensures.finds.reads (λ clean on. c.in_ok-counts.ensures.finds.is_open clean) c.in-Err.ensures.looks.reads c.in-Err.ensures.cause
