use Rattle.std.proofs.Common.{[], refl}
use Rattle.std.proofs.lemmas.Result.{err_from_is_err_and}
use Rattle.lemmas.proofs.ResultFacts.{if_some}
use Rattle.catalogue.proofs.SourceFacts.{told_so}
use Rattle.bureau.proofs.KeptFacts.{idle, kept_run}
use Rattle.bureau.specs.Kept.{IsKeptRun}
use Rattle.bureau_http.specs.Served.{IsServed}
use Rattle.bureau_http.specs.declared.fault.ConnFault.TheVariants.{Memory}
use Rattle.bureau_http.proofs.ServingFacts.{ActOnce, exit_as, map_some, nothing_served}
use Rattle.bureau_http.proofs.LawfulFacts.{one_lawful, ran_lawful}
use Rattle.bureau_http.proofs.serving.serve_one.Goals as goal

pub returns-in_err-routes-clause-served : goal.returns-in_err-routes-clause-served
returns-in_err-routes-clause-served g c = record {
  told = λ ours clean this stands.
      let view = g.D.Desk.tables_view in
      let desk = c.args.desk.now in
      let runs = IsKeptRun g.D.Desk.tables_view c.args.desk.now c.args.desk.now in
      let once : ActOnce runs = λ this next calls run.
      let plain = kept_run g.D.Desk.tables_view c.args.desk.now c.args.desk.now this calls next run in
      (c.repeats.ensures.once this next calls plain, c.repeats.ensures.stale this next calls plain) in
      let left = g.R.Read.remaining c.args.reader.now in
      let kept = g.W.Write.contents c.args.writer.now in
      if_some _ left (λ bytes is_left.
      one_lawful view desk desk this left kept kept c.from_residual.result bytes
      (exit_as (λ r. IsServed runs this left kept kept r bytes) c.from_residual.result Memory Memory
      (err_from_is_err_and c.from_residual.result c.from_residual.ensures.1) refl (nothing_served runs once this left kept bytes (refl, idle g.D.Desk.tables_view c.args.desk.now this stands) is_left)));
}

pub returns-in_err-routes-clause-ran : goal.returns-in_err-routes-clause-ran
returns-in_err-routes-clause-ran g c = record {
  told = λ ours clean this stands.
      let view = g.D.Desk.tables_view in
      let desk = c.args.desk.now in
      ran_lawful view desk desk this (record { calls = []; closing = this; run = (refl, idle view desk this stands) });
}

pub returns-clause-ran : goal.returns-clause-ran
returns-clause-ran g c = told_so c.serve_connection.ensures.ran (λ this ran. ran_lawful g.D.Desk.tables_view c.args.desk.now c.serve_connection.new.desk this ran)

pub returns-clause-served : goal.returns-clause-served
returns-clause-served g c =
    told_so c.serve_connection.ensures.served (λ this served.
    map_some (g.R.Read.remaining c.args.reader.now) served (λ bytes one.
    one_lawful g.D.Desk.tables_view c.args.desk.now c.serve_connection.new.desk this (g.R.Read.remaining c.serve_connection.new.reader) (g.W.Write.contents c.args.writer.now) (g.W.Write.contents c.serve_connection.new.writer) c.serve_connection.result bytes one))
