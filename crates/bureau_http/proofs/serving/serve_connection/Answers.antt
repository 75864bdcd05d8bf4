use Rattle.std.proofs.Common.{◌-◌, [], rules, ap, ◌∙◌, refl, Ok, IfSome, arith, subst, sym}
use Rattle.std.specs.Io.KnownBytes.{prepend_known}
use Rattle.std.proofs.lemmas.Result.{err_from_is_err_and}
use Rattle.bureau.proofs.KeptFacts.{idle}
use Rattle.bureau.specs.Kept.{IsKeptRun}
use Rattle.catalogue.proofs.SourceFacts.{goes_on}
use Rattle.catalogue.specs.View.{Tells}
use Rattle.bureau_http.specs.Served.{IsServed, Stays}
use Rattle.bureau_http.proofs.NextFacts.{acts_once, ended_served, failed_served, last_served, one_served, ran_next}
use Rattle.bureau_http.proofs.ServingFacts.{exit_as, nothing_yet}
use Rattle.bureau_http.proofs.serving.serve_connection.Goals as goal

pub returns-in_err-serve_next-clause-served : goal.returns-in_err-serve_next-clause-served
returns-in_err-serve_next-clause-served g c =
    let view = g.D.Desk.tables_view in
    let old = c.args.desk.now in
    let new = c.serve_next.new.desk in
    let fault = c.in_err-serve_next.field-0.0 in
    exit_as (λ r. Tells view old new (λ this. IfSome (g.R.Read.remaining c.args.reader.now)
    (IsServed (IsKeptRun view old new) this (g.R.Read.remaining c.serve_next.new.reader) (g.W.Write.contents c.args.writer.now) (g.W.Write.contents c.serve_next.new.writer) r)))
    c.from_residual.result fault fault (err_from_is_err_and c.from_residual.result c.from_residual.ensures.1) refl
    (failed_served g.D.Desk.tables_view c.args.desk.now c.loop-intake.desk c.serve_next.new.desk c.loop-intake.invariant.goes c.serve_next.ensures.goes
    (acts_once c.repeats.ensures.once c.repeats.ensures.stale) c.loop-intake.ordinal c.serve_next.new.intake
    (g.R.Read.remaining c.args.reader.now) (prepend_known c.loop-intake.intake (g.R.Read.remaining c.loop-intake.reader)) (g.R.Read.remaining c.serve_next.new.reader)
    (g.W.Write.contents c.args.writer.now) (g.W.Write.contents c.loop-intake.writer) (g.W.Write.contents c.serve_next.new.writer)
    c.serve_next.result c.loop-intake.invariant.so_far c.serve_next.ensures.next
    fault c.in_err-serve_next.was)

pub returns-in-CleanEnd-clause-served : goal.returns-in-CleanEnd-clause-served
returns-in-CleanEnd-clause-served g c =
    let at = c.loop-intake.invariant.first in
    ended_served g.D.Desk.tables_view c.args.desk.now c.loop-intake.desk c.serve_next.new.desk c.loop-intake.invariant.goes c.serve_next.ensures.goes
    (acts_once c.repeats.ensures.once c.repeats.ensures.stale) c.loop-intake.ordinal c.serve_next.new.intake
    (g.R.Read.remaining c.args.reader.now) (prepend_known c.loop-intake.intake (g.R.Read.remaining c.loop-intake.reader)) (g.R.Read.remaining c.serve_next.new.reader)
    (g.W.Write.contents c.args.writer.now) (g.W.Write.contents c.loop-intake.writer) (g.W.Write.contents c.serve_next.new.writer)
    c.serve_next.result c.loop-intake.invariant.so_far c.serve_next.ensures.next
    (c.loop-intake.ordinal - 1) (omega arith) (c.in_ok-serve_next.was ∙ ap (λ s. Ok s) c.in-CleanEnd.is)

pub returns-in-Ends-clause-served : goal.returns-in-Ends-clause-served
returns-in-Ends-clause-served g c =
    last_served g.D.Desk.tables_view c.args.desk.now c.loop-intake.desk c.serve_next.new.desk c.loop-intake.invariant.goes c.serve_next.ensures.goes
    (acts_once c.repeats.ensures.once c.repeats.ensures.stale) c.loop-intake.ordinal c.serve_next.new.intake
    (g.R.Read.remaining c.args.reader.now) (prepend_known c.loop-intake.intake (g.R.Read.remaining c.loop-intake.reader)) (g.R.Read.remaining c.serve_next.new.reader)
    (g.W.Write.contents c.args.writer.now) (g.W.Write.contents c.loop-intake.writer) (g.W.Write.contents c.serve_next.new.writer)
    c.serve_next.result c.loop-intake.invariant.so_far c.serve_next.ensures.next
    c.in-Ends.field-0 (c.in_ok-serve_next.was ∙ ap (λ s. Ok s) c.in-Ends.is)

pub loop-intake-init : goal.loop-intake-init
loop-intake-init g c =
    let view = g.D.Desk.tables_view in
    let desk = c.args.desk.now in
    record {
      goes = record { clean = λ h. h; ours = λ h _. h; failures_rise = omega arith };
      first = omega arith;
      last = omega arith;
      ran = record { told = λ ours clean this stand. record { calls = []; closing = this; run = (refl, idle view desk this stand) } };
      so_far = record {
        told = λ ours clean this stand.
            nothing_yet (IsKeptRun view desk desk) this (prepend_known c.new-intake.result (g.R.Read.remaining c.args.reader.now)) (g.R.Read.remaining c.args.reader.now) (g.W.Write.contents c.args.writer.now)
            (refl, idle view desk this stand) (search rules);
      };
    }

pub loop-intake-preserved : goal.loop-intake-preserved
loop-intake-preserved g c =
    let low = c.in_ok-serve_next.ensures.within (subst Stays (sym c.in-Stays.is) tt) in
    let first = c.loop-intake.invariant.first in
    record {
      goes = goes_on c.loop-intake.invariant.goes c.serve_next.ensures.goes;
      first = omega arith;
      last = omega arith;
      ran = ran_next g.D.Desk.tables_view c.args.desk.now c.loop-intake.desk c.serve_next.new.desk c.loop-intake.invariant.goes c.serve_next.ensures.goes
          c.loop-intake.invariant.ran c.serve_next.ensures.ran;
      so_far = one_served g.D.Desk.tables_view c.args.desk.now c.loop-intake.desk c.serve_next.new.desk c.loop-intake.invariant.goes c.serve_next.ensures.goes
          (acts_once c.repeats.ensures.once c.repeats.ensures.stale) c.loop-intake.ordinal c.serve_next.new.intake
          (g.R.Read.remaining c.args.reader.now) (prepend_known c.loop-intake.intake (g.R.Read.remaining c.loop-intake.reader)) (g.R.Read.remaining c.serve_next.new.reader)
          (g.W.Write.contents c.args.writer.now) (g.W.Write.contents c.loop-intake.writer) (g.W.Write.contents c.serve_next.new.writer)
          c.serve_next.result c.loop-intake.invariant.so_far c.serve_next.ensures.next
          c.in-Stays.field-0 (c.in_ok-serve_next.was ∙ ap (λ s. Ok s) c.in-Stays.is);
    }

pub returns-in_err-serve_next-clause-ran : goal.returns-in_err-serve_next-clause-ran
returns-in_err-serve_next-clause-ran g c =
    ran_next g.D.Desk.tables_view c.args.desk.now c.loop-intake.desk c.serve_next.new.desk c.loop-intake.invariant.goes c.serve_next.ensures.goes
    c.loop-intake.invariant.ran c.serve_next.ensures.ran

pub returns-in-CleanEnd-clause-ran : goal.returns-in-CleanEnd-clause-ran
returns-in-CleanEnd-clause-ran g c =
    ran_next g.D.Desk.tables_view c.args.desk.now c.loop-intake.desk c.serve_next.new.desk c.loop-intake.invariant.goes c.serve_next.ensures.goes
    c.loop-intake.invariant.ran c.serve_next.ensures.ran

pub returns-in-Ends-clause-ran : goal.returns-in-Ends-clause-ran
returns-in-Ends-clause-ran g c =
    ran_next g.D.Desk.tables_view c.args.desk.now c.loop-intake.desk c.serve_next.new.desk c.loop-intake.invariant.goes c.serve_next.ensures.goes
    c.loop-intake.invariant.ran c.serve_next.ensures.ran
