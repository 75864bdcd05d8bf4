use Rattle.std.proofs.Common.{◌≤◌, ◌+◌, ◌-◌, Err, Ok, ap, drop, length, take, subst, ◌∙◌, arith}
use Rattle.std.specs.Prelude.{fold, sum_by}
use Rattle.std.proofs.lemmas.List.{length-drop, take_all}
use Rattle.sql_tables.specs.Changes.{published}
use Rattle.sql_tables.specs.Fit.{IsFitChange}
use Rattle.sql_tables.proofs.StopFacts.{was_clean}
use Rattle.sql_writes.specs.Records.{FreeIf, IsTogether}
use Rattle.sql_writes.specs.Room.{is_short_change, rows_of_change}
use Rattle.sql_writes.proofs.AlikeFacts.{folded_longer, part, part_all, part_as, part_passes, summed_fewer, summed_longer}
use Rattle.sql_rows.proofs.ChangeFacts.{refused, stopped}
use Rattle.sql_writes.proofs.FreeFacts.{free_next}
use Rattle.sql_rows.proofs.TurnFacts.{begun}
use Rattle.sql_writes.proofs.LoadFacts.{published_turn}
use Rattle.sql_writes.proofs.TakeFacts.{stopped_first, takes_as, takes_more, takes_told}
use Rattle.sql_writes.proofs.WhereFacts.{takes_known, takes_where, where_alike, where_any, where_both, where_known}
use Rattle.sql_writes.proofs.publication.put_changes.Goals as goal

pub loop-at-init : goal.loop-at-init
loop-at-init g c =
    let all = c.args.changes.now in
    let Fits = FreeIf c.in_ok-free.free all in
    record {
      same = c.are_free.ensures.same;
      within = omega arith;
      changes = where_any _ _ _ Fits (λ stored. fold published stored (take 0 all))
          (begun _ _ (λ changes stored. fold published stored changes) (published_turn) all _ _ c.in_ok-free.free tt c.in_ok-free.ensures.asks.changes);
      takes = λ fits short. takes_told _ _ c.in_ok-free.free tt 0 Fits
          (takes_more _ _ _ 0 0 (λ stored. Unit {0}) Fits (λ stored free. tt) (omega arith) c.in_ok-free.ensures.asks.takes);
      clean = λ clean. clean;
    }

pub put_together-requires : goal.put_together-requires
put_together-requires g c =
    let at = c.loop-at.at in
    let all = c.args.changes.now in
    let left = length-drop at all in
    let rest = take_all (length all - at) (drop at all) (omega (arith, left)) in
    let long = ap length rest in
    let low : at + c.together-count.result ≤ length all = omega (arith, left, long, c.together-count.ensures.within, c.loop-at.invariant.within) in
    record {
      together = subst IsTogether (ap (take c.together-count.result) rest ∙ part_as at c.together-count.result all) c.together-count.ensures.together;
    }

pub returns-in_err-free-clause-changes : goal.returns-in_err-free-clause-changes
returns-in_err-free-clause-changes g c = refused _ _ _ _ (λ stored. stored) _ c.from_residual.ensures.0 c.in_err-free.ensures.asks.changes

pub returns-in_err-free-clause-takes : goal.returns-in_err-free-clause-takes
returns-in_err-free-clause-takes g c fits short =
    stopped_first _ _ c.in_err-free.field-0.0 _ 0 _ (λ stored. Unit {0}) (λ stored. Unit {0}) c.from_residual.ensures.1 (λ stored u. tt) c.in_err-free.ensures.asks.takes (omega arith)

pub returns-in_err-put_together-clause-changes : goal.returns-in_err-put_together-clause-changes
returns-in_err-put_together-clause-changes g c =
    let one = c.loop-at.invariant.changes in
    let two = c.in_err-put_together.ensures.changes in
    stopped _ _ _ tt _ _ one.made two.made _ c.from_residual-in_err-put_together.ensures.0 one.changes two.changes

pub loop-at-preserved : goal.loop-at-preserved
loop-at-preserved g c =
    let at = c.loop-at.at in
    let count = c.together-count.result in
    let all = c.args.changes.now in
    let found = c.in_ok-free.free in
    let left = length-drop at all in
    record {
      same = c.put_together.ensures.same ∙ c.loop-at.invariant.same;
      within = omega (arith, left, c.together-count.ensures.within, c.loop-at.invariant.within);
      changes = where_both _ _ _ tt (Ok tt) (FreeIf found all) (FreeIf found (part at count all)) (λ stored. fold published stored (take at all)) (λ stored. fold published stored (part at count all)) (λ stored. fold published stored (take (at + count) all))
          (λ stored free. free_next found at count all stored free) (λ stored. folded_longer published at count all stored) c.loop-at.invariant.changes c.in_ok-put_together.ensures.changes;
      takes = λ fits short. takes_as _ _ (Ok tt) (FreeIf found all) (summed_longer rows_of_change at count all)
          (takes_where _ _ _ tt (Ok tt) (λ stored. fold published stored (take at all)) (sum_by rows_of_change (take at all)) (sum_by rows_of_change (part at count all)) (FreeIf found all) (FreeIf found (part at count all)) (λ stored free. free_next found at count all stored free)
          c.loop-at.invariant.changes (c.loop-at.invariant.takes fits short) c.put_together.ensures.changes.changes.survives
          (c.in_ok-put_together.ensures.takes (part_all IsFitChange at count all fits) (part_passes is_short_change at count all short)));
      clean = λ clean. c.loop-at.invariant.clean (was_clean _ _ _ c.put_together.ensures.changes.changes.survives clean);
    }

pub returns-clause-changes : goal.returns-clause-changes
returns-clause-changes g c =
    let all = c.args.changes.now in
    let Fits = FreeIf c.in_ok-free.free all in
    where_known _ _ (Ok tt) Fits (λ stored. fold published stored all)
    (λ clean known found. c.in_ok-free.ensures.free found (c.loop-at.invariant.clean clean) known)
    (where_alike _ _ (Ok tt) Fits (λ stored. fold published stored (take c.loop-at.at all)) (λ stored. fold published stored all)
    (λ stored free. ap (fold published stored) (take_all c.loop-at.at all (omega (arith, c.loop-at-test.false)))) c.loop-at.invariant.changes)

pub returns-clause-takes : goal.returns-clause-takes
returns-clause-takes g c fits short =
    let all = c.args.changes.now in
    let Fits = FreeIf c.in_ok-free.free all in
    takes_known _ _ (Ok tt) (sum_by rows_of_change all) Fits
    (λ clean known found. c.in_ok-free.ensures.free found (c.loop-at.invariant.clean clean) known)
    (takes_as _ _ (Ok tt) Fits (ap (sum_by rows_of_change) (take_all c.loop-at.at all (omega (arith, c.loop-at-test.false)))) (c.loop-at.invariant.takes fits short))

pub returns-in_err-put_together-clause-takes : goal.returns-in_err-put_together-clause-takes
returns-in_err-put_together-clause-takes g c fits short =
    let at = c.loop-at.at in
    let count = c.together-count.result in
    let all = c.args.changes.now in
    let found = c.in_ok-free.free in
    takes_known _ _ _ (sum_by rows_of_change all) (FreeIf found all)
    (λ clean known is. c.in_ok-free.ensures.free is (c.loop-at.invariant.clean (was_clean _ _ _ c.put_together.ensures.changes.changes.survives clean)) known)
    (stopped_first _ _ c.in_err-put_together.field-0.0 _ (sum_by rows_of_change (take at all) + sum_by rows_of_change (part at count all)) _ (FreeIf found all) (FreeIf found all) c.from_residual-in_err-put_together.ensures.1 (λ stored free. free)
    (takes_where _ _ _ tt (Err c.in_err-put_together.field-0.0) (λ stored. fold published stored (take at all)) (sum_by rows_of_change (take at all)) (sum_by rows_of_change (part at count all)) (FreeIf found all) (FreeIf found (part at count all)) (λ stored free. free_next found at count all stored free)
    c.loop-at.invariant.changes (c.loop-at.invariant.takes fits short) c.put_together.ensures.changes.changes.survives
    (c.in_err-put_together.ensures.takes (part_all IsFitChange at count all fits) (part_passes is_short_change at count all short)))
    (summed_fewer rows_of_change at count all))
