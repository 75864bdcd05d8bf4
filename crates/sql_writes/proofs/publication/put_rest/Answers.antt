use Rattle.std.proofs.Common.{◌≡◌, List, length, rules, subst, sym}
use Rattle.std.specs.List.{AllByRecursion}
use Rattle.catalogue.specs.Conditional.{CondsAscend}
use Rattle.catalogue.specs.declared.conditional.CondNeed.{CondNeed}
use Rattle.catalogue.specs.declared.change.Change.{Change}
use Rattle.catalogue.specs.declared.change.Change.TheVariants.{OfHold}
use Rattle.holddata.specs.declared.hold.HoldChange.TheVariants.{Put}
use Rattle.sqlite.specs.Held.{state}
use Rattle.sqlite.specs.declared.error.Error.{Error}
use Rattle.sql_tables.specs.Writing.{Changes}
use Rattle.sql_tables.specs.Fit.{IsCond, IsFitChange}
use Rattle.sql_writes.specs.Excused.{Takes}
use Rattle.sql_writes.specs.Records.{rest_count, rest_put}
use Rattle.sql_writes.proofs.LeaveFacts.{conds_new}
use Rattle.sql_rows.proofs.AbsentFacts.{every}
use Rattle.sql_writes.proofs.publication.put_rest.Goals as goal

pub returns-in-OfHold-Put-clause-changes : goal.returns-in-OfHold-Put-clause-changes
returns-in-OfHold-Put-clause-changes g c =
    let is_it : c.args.change.now ≡ OfHold (Put c.in-OfHold-Put.hold) = search (rules, c.in-OfHold-Put.is, c.in-OfHold-Put.field-0-is, c.in-OfHold-Put.hold-is) in
    subst (λ (change : Change). Changes {Answer = Unit {0}} {Fault = Error} (state g.S.Store c.args.tx.now.conn.now) (state g.S.Store c.put_hold.new.tx.conn.now) c.put_hold.result (λ stored. rest_put stored change)) (sym is_it) c.put_hold.ensures.changes

pub returns-in-Whole-clause-takes : goal.returns-in-Whole-clause-takes
returns-in-Whole-clause-takes g c fits short =
    let sysmod = c.in-Whole.sysmod in
    let fit = subst IsFitChange c.in-Whole.is fits in
    let conds = c.as_slice.result.now in
    let is = c.as_slice.ensures.value in
    let old = state g.S.Store c.args.tx.now.conn.now in
    let new = state g.S.Store c.replace.new.tx.conn.now in
    subst (λ (change : Change). Takes {Answer = Unit {0}} old new c.replace.result (rest_count change) (λ stored. Unit {0})) (sym c.in-Whole.is)
    (subst (λ (all : List CondNeed). Takes {Answer = Unit {0}} old new c.replace.result (length all) (λ stored. Unit {0})) is
    (c.replace.ensures.takes (every (λ cond. Unit {0}) (λ cond. tt) conds)
    (conds_new sysmod.id conds (subst (AllByRecursion IsCond) (sym is) fit.conds) (subst CondsAscend (sym is) fit.conds_ascend))))
