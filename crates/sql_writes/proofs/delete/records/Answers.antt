use Rattle.std.proofs.Common.{◌+◌, Err, Ok, arith, subst, sym, take, ◌∙◌}
use Rattle.std.specs.Prelude.{fold}
use Rattle.catalogue.specs.declared.change.Change.{Change}
use Rattle.catalogue.specs.declared.change.Change.TheVariants.{Whole}
use Rattle.sqlite.specs.Held.{state}
use Rattle.sqlite.specs.declared.error.Error.{Error}
use Rattle.sql_tables.specs.Stored.{Stored}
use Rattle.sql_tables.specs.Writing.{Changes}
use Rattle.sql_writes.specs.Records.{record_gone}
use Rattle.sql_rows.proofs.ChangeFacts.{alike}
use Rattle.sql_rows.proofs.TurnFacts.{begun, more}
use Rattle.sql_writes.proofs.TakeFacts.{stopped_first, takes_then}
use Rattle.sql_writes.proofs.TogetherFacts.{gone_turn, hold_spared}
use Rattle.sql_writes.proofs.delete.records.Goals.{in-Whole+in_ok-record-in-Whole, in-OfHold}
use Rattle.sql_writes.proofs.delete.records.Goals as goal

pub loop-change-init : goal.loop-change-init
loop-change-init g c = record {
  same = c.record.ensures.same;
  changes = begun _ _ (λ changes stored. fold record_gone (record_gone stored (Whole c.args.first.now)) changes) (gone_turn (λ stored. record_gone stored (Whole c.args.first.now))) c.args.changes.now _ _ _ tt c.in_ok-record.ensures.changes;
  takes = c.in_ok-record.ensures.takes;
}

pub returns-in_err-record-in-Whole-clause-takes : goal.returns-in_err-record-in-Whole-clause-takes
returns-in_err-record-in-Whole-clause-takes g c =
    stopped_first _ _ c.in_err-record-in-Whole.field-0.0 _ 0 0 (λ stored. Unit {0}) (λ stored. Unit {0}) c.from_residual-in_err-record-in-Whole.ensures.1 (λ stored u. tt)
    (takes_then _ _ _ tt (Err c.in_err-record-in-Whole.field-0.0) (λ stored. fold record_gone (record_gone stored (Whole c.args.first.now)) (take c.loop-change.change-index c.args.changes.now)) 0 0 (λ stored. Unit {0}) (λ stored. Unit {0}) (λ stored u. tt)
    c.loop-change.invariant.changes c.loop-change.invariant.takes c.record-in-Whole.ensures.changes.survives c.in_err-record-in-Whole.ensures.takes) (omega arith)

pub loop-change-preserved : goal.loop-change-preserved
loop-change-preserved g c =
    let all = c.args.changes.now in
    let at = c.loop-change.change-index in
    let first = c.args.first.now in
    let so_far : Stored → Stored = λ stored. fold record_gone (record_gone stored (Whole first)) (take at all) in
    elim c.match-change.branch [
      | in-Whole+in_ok-record-in-Whole w ↦ rw w.tx-is (record {
        same = w.record-in-Whole.ensures.same ∙ c.loop-change.invariant.same;
        changes = more _ _ (λ changes stored. fold record_gone (record_gone stored (Whole first)) changes) (gone_turn (λ stored. record_gone stored (Whole first))) all _ _ _ tt _ at c.change-item.result c.loop-change-test.true c.change-item.is
            c.loop-change.invariant.changes
            (subst (λ (change : Change). Changes {Answer = Unit {0}} {Fault = Error} (state g.S.Store c.loop-change.tx.conn.now) (state g.S.Store w.record-in-Whole.new.tx.conn.now) (Ok tt) (λ stored. record_gone stored change)) (sym w.in-Whole.is) w.in_ok-record-in-Whole.ensures.changes);
        takes = takes_then _ _ _ tt (Ok tt) so_far 0 0 (λ stored. Unit {0}) (λ stored. Unit {0}) (λ stored u. tt)
            c.loop-change.invariant.changes c.loop-change.invariant.takes w.record-in-Whole.ensures.changes.survives w.in_ok-record-in-Whole.ensures.takes;
      })
      | in-OfHold w ↦ rw w.tx-is (record {
        same = c.loop-change.invariant.same;
        changes = alike _ _ (Ok tt) so_far (λ stored. fold record_gone (record_gone stored (Whole first)) (take (at + 1) all))
            (λ stored. hold_spared all at c.change-item.result w.in-OfHold.field-0 c.loop-change-test.true c.change-item.is w.in-OfHold.is (record_gone stored (Whole first))) c.loop-change.invariant.changes;
        takes = c.loop-change.invariant.takes;
      })
    ]
