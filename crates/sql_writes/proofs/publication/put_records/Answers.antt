use Rattle.std.proofs.Common.{◌+◌, Err, Ok, ap, ap₂, length, take, ◌∙◌, arith}
use Rattle.std.specs.Prelude.{fold, sum_by}
use Rattle.std.proofs.lemmas.List.{take_all}
use Rattle.sql_tables.specs.Changes.{published}
use Rattle.sql_tables.specs.Fit.{IsFitChange}
use Rattle.sql_tables.specs.Stored.{Stored}
use Rattle.sql_writes.specs.Records.{FreeIf, record_gone, rest_count, rest_put, with_members, with_sysmods}
use Rattle.sql_writes.specs.Room.{is_short_change}
use Rattle.sql_writes.proofs.BoundFacts.{one_more}
use Rattle.sql_writes.proofs.FreeFacts.{conds_kept, none_counted, rest_skipped}
use Rattle.sql_writes.proofs.TakeFacts.{element, element_passes, fewer_rows, more_rows, stopped_first, takes_as}
use Rattle.sql_writes.proofs.TogetherFacts.{all_counted, put_at_once, rest_turn}
use Rattle.sql_writes.proofs.WhereFacts.{takes_where, where_alike, where_refused, where_stopped, where_then, where_told, where_untouched}
use Rattle.sql_writes.proofs.publication.put_records.Goals as goal

pub loop-change-init : goal.loop-change-init
loop-change-init g c =
    let all = c.args.changes.now in
    let rows = c.in_ok-rows.rows.items in
    let sups = c.in_ok-sups.sups.items in
    let Fits = FreeIf c.args.free all in
    let base : Stored → Stored = λ stored. with_members sups (with_sysmods rows (fold record_gone stored all)) in
    let as_many = ap length c.as_slice.ensures.value in
    let members = ap length c.as_slice-2.ensures.value in
    record {
      same = c.put_rows.ensures.same;
      changes = where_told _ _ _ tt Fits base
          (where_alike _ _ _ Fits (λ stored. with_members c.as_slice-2.result.now (with_sysmods c.as_slice.result.now (fold record_gone stored all))) base
          (λ stored free. ap₂ (λ some made. with_members some (with_sysmods made (fold record_gone stored all))) c.as_slice-2.ensures.value c.as_slice.ensures.value) c.in_ok-put_rows.ensures.changes);
      takes = λ fits short. takes_as _ _ (Ok tt) Fits (omega (arith, as_many, members)) (c.in_ok-put_rows.ensures.takes fits short);
    }

pub returns-in_err-rows-clause-changes : goal.returns-in_err-rows-clause-changes
returns-in_err-rows-clause-changes g c = where_untouched _ _ _ _ c.from_residual.ensures.0

pub returns-in_err-sups-clause-changes : goal.returns-in_err-sups-clause-changes
returns-in_err-sups-clause-changes g c = where_untouched _ _ _ _ c.from_residual-in_err-sups.ensures.0

pub returns-in_err-put_rows-clause-changes : goal.returns-in_err-put_rows-clause-changes
returns-in_err-put_rows-clause-changes g c =
    where_refused _ _ _ _ _ _ _ _ c.from_residual-in_err-put_rows.ensures.0 c.in_err-put_rows.ensures.changes

pub returns-in_err-put_rows-clause-takes : goal.returns-in_err-put_rows-clause-takes
returns-in_err-put_rows-clause-takes g c fits short =
    let Fits = FreeIf c.args.free c.args.changes.now in
    let counted = all_counted c.args.changes.now c.in_ok-rows.rows.items c.in_ok-sups.sups.items c.in_ok-rows.ensures c.in_ok-sups.ensures in
    let as_many = ap length c.as_slice.ensures.value in
    let members = ap length c.as_slice-2.ensures.value in
    stopped_first _ _ c.in_err-put_rows.field-0.0 _ (length c.as_slice.result.now + length c.as_slice-2.result.now) _ Fits Fits c.from_residual-in_err-put_rows.ensures.1 (λ stored free. free)
    (c.in_err-put_rows.ensures.takes fits short) (omega (arith, counted, as_many, members))

pub loop-change-preserved-then-is_put : goal.loop-change-preserved-then-is_put
loop-change-preserved-then-is_put g c =
    let all = c.args.changes.now in
    let at = c.loop-change.change-index in
    let one = c.change-item.result in
    let rows = c.in_ok-rows.rows.items in
    let sups = c.in_ok-sups.sups.items in
    let Fits = FreeIf c.args.free all in
    let base : Stored → Stored = λ stored. with_members sups (with_sysmods rows (fold record_gone stored all)) in
    let found = c.is_put.ensures.free c.if-is_put.true in
    let bare = c.is_put.ensures.none c.if-is_put.true in
    let counted = more_rows rest_count all at one c.loop-change-test.true c.change-item.is in
    let none = none_counted one bare in
    record {
      same = c.loop-change.invariant.same;
      changes = where_alike _ _ (Ok tt) Fits (λ stored. fold rest_put (base stored) (take at all)) (λ stored. fold rest_put (base stored) (take (at + 1) all))
          (λ stored free. rest_skipped base (λ stored. conds_kept all sups rows stored) all at one c.loop-change-test.true c.change-item.is bare stored (free found)) c.loop-change.invariant.changes;
      takes = λ fits short. takes_as _ _ (Ok tt) Fits (omega (arith, counted, none)) (c.loop-change.invariant.takes fits short);
    }

pub loop-change-preserved : goal.loop-change-preserved
loop-change-preserved g c =
    let all = c.args.changes.now in
    let at = c.loop-change.change-index in
    let one = c.change-item.result in
    let rows = c.in_ok-rows.rows.items in
    let sups = c.in_ok-sups.sups.items in
    let before = length rows + length sups in
    let Fits = FreeIf c.args.free all in
    let base : Stored → Stored = λ stored. with_members sups (with_sysmods rows (fold record_gone stored all)) in
    let counted = more_rows rest_count all at one c.loop-change-test.true c.change-item.is in
    record {
      same = c.put_rest.ensures.same ∙ c.loop-change.invariant.same;
      changes = where_told _ _ _ tt Fits (λ stored. fold rest_put (base stored) (take (at + 1) all))
          (where_then _ _ _ tt _ Fits (λ stored. fold rest_put (base stored) (take at all)) (λ stored. rest_put stored one) (λ stored. fold rest_put (base stored) (take (at + 1) all))
          (λ stored. (rest_turn base).more (take at all) one stored ∙ ap (fold rest_put (base stored)) (one_more all at one c.loop-change-test.true c.change-item.is))
          c.loop-change.invariant.changes c.in_ok-put_rest.ensures.changes);
      takes = λ fits short. takes_as _ _ (Ok tt) Fits (omega (arith, counted))
          (takes_where _ _ _ tt (Ok tt) (λ stored. fold rest_put (base stored) (take at all)) (before + sum_by rest_count (take at all)) (rest_count one) Fits (λ stored. Unit {0}) (λ stored free. tt)
          c.loop-change.invariant.changes (c.loop-change.invariant.takes fits short) c.put_rest.ensures.changes.survives
          (c.in_ok-put_rest.ensures.takes (element IsFitChange all at one c.loop-change-test.true c.change-item.is fits) (element_passes is_short_change all at one c.loop-change-test.true c.change-item.is short)));
    }

pub returns-in_err-put_rest-clause-takes : goal.returns-in_err-put_rest-clause-takes
returns-in_err-put_rest-clause-takes g c fits short =
    let all = c.args.changes.now in
    let at = c.loop-change.change-index in
    let one = c.change-item.result in
    let rows = c.in_ok-rows.rows.items in
    let sups = c.in_ok-sups.sups.items in
    let before = length rows + length sups in
    let Fits = FreeIf c.args.free all in
    let base : Stored → Stored = λ stored. with_members sups (with_sysmods rows (fold record_gone stored all)) in
    let counted = all_counted all rows sups c.in_ok-rows.ensures c.in_ok-sups.ensures in
    let fewer = fewer_rows rest_count all at one c.loop-change-test.true c.change-item.is in
    stopped_first _ _ c.in_err-put_rest.field-0.0 _ ((before + sum_by rest_count (take at all)) + rest_count one) _ Fits Fits c.from_residual-in_err-put_rest.ensures.1 (λ stored free. free)
    (takes_where _ _ _ tt (Err c.in_err-put_rest.field-0.0) (λ stored. fold rest_put (base stored) (take at all)) (before + sum_by rest_count (take at all)) (rest_count one) Fits (λ stored. Unit {0}) (λ stored free. tt)
    c.loop-change.invariant.changes (c.loop-change.invariant.takes fits short) c.put_rest.ensures.changes.survives
    (c.in_err-put_rest.ensures.takes (element IsFitChange all at one c.loop-change-test.true c.change-item.is fits) (element_passes is_short_change all at one c.loop-change-test.true c.change-item.is short)))
    (omega (arith, counted, fewer))

pub returns-in_err-put_rest-clause-changes : goal.returns-in_err-put_rest-clause-changes
returns-in_err-put_rest-clause-changes g c =
    let all = c.args.changes.now in
    let rows = c.in_ok-rows.rows.items in
    let sups = c.in_ok-sups.sups.items in
    where_stopped _ _ _ tt _ _ (FreeIf c.args.free all) _ (λ stored. fold rest_put (with_members sups (with_sysmods rows (fold record_gone stored all))) (take c.loop-change.change-index all)) _ _ c.from_residual-in_err-put_rest.ensures.0 c.loop-change.invariant.changes c.in_err-put_rest.ensures.changes

pub returns-clause-changes : goal.returns-clause-changes
returns-clause-changes g c =
    let all = c.args.changes.now in
    let rows = c.in_ok-rows.rows.items in
    let sups = c.in_ok-sups.sups.items in
    let base : Stored → Stored = λ stored. with_members sups (with_sysmods rows (fold record_gone stored all)) in
    where_alike _ _ (Ok tt) (FreeIf c.args.free all) (λ stored. fold rest_put (base stored) (take c.loop-change.change-index all)) (λ stored. fold published stored all)
    (λ stored free. ap (fold rest_put (base stored)) (take_all c.loop-change.change-index all c.loop-change-test.false) ∙ put_at_once all rows sups c.requires.apart c.in_ok-rows.ensures c.in_ok-sups.ensures stored)
    c.loop-change.invariant.changes

pub returns-clause-takes : goal.returns-clause-takes
returns-clause-takes g c fits short =
    let all = c.args.changes.now in
    let rows = c.in_ok-rows.rows.items in
    let sups = c.in_ok-sups.sups.items in
    let counted = all_counted all rows sups c.in_ok-rows.ensures c.in_ok-sups.ensures in
    let done = ap (sum_by rest_count) (take_all c.loop-change.change-index all c.loop-change-test.false) in
    takes_as _ _ (Ok tt) (FreeIf c.args.free all) (omega (arith, counted, done)) (c.loop-change.invariant.takes fits short)
