use Rattle.std.proofs.Common.{◌≡◌, Err, IfErr, inl, inr, length, rules, subst, sym}
use Rattle.sqlite.specs.Held.{state}
use Rattle.sqlite.specs.State.{HasCleanDisk}
use Rattle.sql_reads.specs.declared.fault.ReadFault.TheVariants.{Device}
use Rattle.sql_reads.proofs.CountFacts.{holds_counted, sysmods_counted}
use Rattle.sql_reads.proofs.TableFacts.{finds_on, then_refused}
use Rattle.sql_tables.specs.Stored.{tables_of}
use Rattle.sql_texts.specs.Reads as read
use Rattle.sql_checks.specs.Refused.{AreUncounted, IsCausedBy, IsUnsaid, SaysCount, of_holds, of_sysmods}
use Rattle.sql_checks.proofs.CauseFacts.{caused_so, later_caused}
use Rattle.sql_checks.proofs.asked.counts.Goals as goal

pub returns-in-Ok-clause-finds : goal.returns-in-Ok-clause-finds
returns-in-Ok-clause-finds g c =
    finds_on (state g.S.Store c.args.conn.now) (state g.S.Store c.count.new.conn) (state g.S.Store c.count-2.new.conn) c.in_ok-sysmods.sysmods c.in-Ok.holds (c.in_ok-sysmods.sysmods, c.in-Ok.holds) _ _ _
    (c.in_ok-sysmods.ensures.finds read.sysmod_count (λ stored. length (tables_of stored).content.sysmods) c.sysmod_count.ensures sysmods_counted)
    (c.in-Ok.ensures.finds read.hold_count (λ stored. length (tables_of stored).content.holds) c.hold_count.ensures holds_counted) (λ stored whole sysmods holds. (sysmods, holds))

pub returns-in_err-sysmods-clause-finds : goal.returns-in_err-sysmods-clause-finds
returns-in_err-sysmods-clause-finds g c =
    let found = c.in_err-sysmods.ensures.finds read.sysmod_count (λ stored. length (tables_of stored).content.sysmods) c.sysmod_count.ensures sysmods_counted in
    search (rules, found, c.from_residual.ensures)

pub returns-in-Err-clause-finds : goal.returns-in-Err-clause-finds
returns-in-Err-clause-finds g c =
    then_refused (state g.S.Store c.args.conn.now) (state g.S.Store c.count.new.conn) (state g.S.Store c.count-2.new.conn) c.in_ok-sysmods.sysmods c.in-Err.fault _ _ _
    (c.in_ok-sysmods.ensures.finds read.sysmod_count (λ stored. length (tables_of stored).content.sysmods) c.sysmod_count.ensures sysmods_counted)
    (c.in-Err.ensures.finds read.hold_count (λ stored. length (tables_of stored).content.holds) c.hold_count.ensures holds_counted)

pub returns-in_err-sysmods-clause-cause : goal.returns-in_err-sysmods-clause-cause
returns-in_err-sysmods-clause-cause g c =
    let old = state g.S.Store c.args.conn.now in
    let new = state g.S.Store c.count.new.conn in
    let is : c.from_residual.result ≡ Err c.in_err-sysmods.field-0.0 = search (rules, c.from_residual.ensures) in
    subst (λ result. IfErr result (λ fault. fault ≡ Device → HasCleanDisk new → IsCausedBy AreUncounted old new)) (sym is)
    (λ device clean. caused_so (IsUnsaid of_sysmods SaysCount) AreUncounted old new (λ limit database why. inl why) (c.in_err-sysmods.ensures.cause read.sysmod_count c.sysmod_count.ensures device clean))

pub returns-in-Err-clause-cause : goal.returns-in-Err-clause-cause
returns-in-Err-clause-cause g c =
    let first = c.in_ok-sysmods.ensures.finds read.sysmod_count (λ stored. length (tables_of stored).content.sysmods) c.sysmod_count.ensures sysmods_counted in
    let second = c.in-Err.ensures.finds read.hold_count (λ stored. length (tables_of stored).content.holds) c.hold_count.ensures holds_counted in
    later_caused (IsUnsaid of_holds SaysCount) AreUncounted (state g.S.Store c.args.conn.now) (state g.S.Store c.count.new.conn) (state g.S.Store c.count-2.new.conn)
    c.in-Err.fault (λ limit database why. inr why) first.reads (λ clean on. first.is_open clean) second.reads (c.in-Err.ensures.cause read.hold_count c.hold_count.ensures)
