use Rattle.std.proofs.Common.{◌≡◌, Option, Some, ap, refl}
use Rattle.faults.specs.declared.any.AnyFault.{AnyFault}
use Rattle.sqlite_wal.specs.Files.{image_at}
use Rattle.store_runs.specs.Desk.{of_store}
use Rattle.store_runs.specs.declared.missing.IfMissing.TheVariants.{Refuse}
use Rattle.store_runs.proofs.AskedFacts.{once_connected, once_refused}
use Rattle.bureau_program.specs.Serving.{session_of}
use Rattle.bureau_program.proofs.KeepingFacts.{kept_served}
use Rattle.bureau_program.proofs.RunsFacts.{goes_on}
use Rattle.bureau_program.proofs.ServingFacts.{not_connected, run_over_files}
use Rattle.bureau_program.proofs.serving.run_serve.Goals as goal

pub returns-in-Ok : goal.returns-in-Ok
returns-in-Ok g c =
    let session = session_of c.args.service (g.S.Surroundings.known_port c.args.surroundings.now) (g.S.Rounds.is_over c.open_and_serve-status.new.surroundings) (g.S.Rounds.log c.args.surroundings.now) (g.S.Rounds.log c.open_and_serve-status.new.surroundings) in
    let run =
    run_over_files session (image_at g.D.Start) c.end.result c.in-Ok.conn c.open_and_serve-status.result.1 c.in-Ok.ensures.found c.end.ensures
    c.args.service.port (g.W.Write.contents c.args.writer.now) (g.W.Write.contents c.open_and_serve-status.new.writer)
    (g.E.Write.contents c.args.errors.now) (g.E.Write.contents c.open_and_serve-status.new.errors) c.open_and_serve-status.result.0 c.open_and_serve-status.ensures in
    let kept = kept_served session (image_at g.D.Start) c.end.result run.outcome c.args.service.port _ _ run.output in
    record {
      served = run;
      kept = kept;
      goes_on = goes_on (image_at g.D.Start) session.log session.log_after run.outcome c.end.result kept;
      asks =
          once_connected (g.T.Stores.asked c.args.stores.now) (g.T.Stores.asked c.connect.new.self) c.args.store.now Refuse (image_at g.D.Start) (λ fault. run.outcome ≡ Some (of_store fault)) c.end.result
          c.open_and_serve-status.result.1 c.end.ensures c.in-Ok.ensures.asked;
    }

pub returns-in-Err : goal.returns-in-Err
returns-in-Err g c =
    let log = g.S.Rounds.log c.args.surroundings.now in
    let session = session_of c.args.service (g.S.Surroundings.known_port c.args.surroundings.now) (g.S.Rounds.is_over c.args.surroundings.now) log log in
    let told : Option AnyFault = Some c.of_store.result in
    let output =
    not_connected session (image_at g.D.Start) c.in-Err.ended c.in-Err.fault c.of_store.result c.args.service.port (g.W.Write.contents c.args.writer.now) refl c.in-Err.ensures.refused c.of_store.ensures in
    let kept = kept_served session (image_at g.D.Start) c.in-Err.ended told c.args.service.port _ _ output in
    record {
      served = record { outcome = told; output = output; told = c.told.ensures.told; status_is = c.told.ensures.status };
      kept = kept;
      goes_on = goes_on (image_at g.D.Start) log log told c.in-Err.ended kept;
      asks =
          once_refused (g.T.Stores.asked c.args.stores.now) (g.T.Stores.asked c.connect.new.self) c.args.store.now Refuse (image_at g.D.Start) (λ fault. told ≡ Some (of_store fault)) c.in-Err.ended
          c.in-Err.fault c.in-Err.ensures.refused.left (ap Some c.of_store.ensures) c.in-Err.ensures.asked;
    }
