use Rattle.std.proofs.Common.{ap, refl, subst}
use Rattle.run_parts.specs.Outputs.{IsTold, fault_in}
use Rattle.bureau_program.specs.Serving.{session_of}
use Rattle.bureau_program.proofs.ServingFacts.{not_opened, served_over}
use Rattle.bureau_program.proofs.serving.open_and_serve.Goals as goal

pub returns-in-Ok : goal.returns-in-Ok
returns-in-Ok g c =
    let session = session_of c.args.service (g.S.Surroundings.known_port c.args.surroundings.now) (g.S.Rounds.is_over c.serve_store-served.new.surroundings) (g.S.Rounds.log c.args.surroundings.now) (g.S.Rounds.log c.serve_store-served.new.surroundings) in
    record {
      outcome = fault_in c.serve_store-served.result.0;
      output =
          served_over g.D.Store session c.args.conn c.into_connection.result c.in-Ok.store c.serve_store-served.result.1 c.in-Ok.ensures.opened c.into_connection.ensures
          (fault_in c.serve_store-served.result.0) c.args.service.port (g.W.Write.contents c.args.writer.now) (g.W.Write.contents c.serve_store-served.new.writer) c.serve_store-served.ensures;
      told = subst (λ errors. IsTold (fault_in c.serve_store-served.result.0) errors (g.E.Write.contents c.told.new.errors)) (ap g.E.Write.contents c.in-Ok.ensures.silent) c.told.ensures.told;
      status_is = c.told.ensures.status;
    }

pub returns-in-Err : goal.returns-in-Err
returns-in-Err g c =
    let log = g.S.Rounds.log c.args.surroundings.now in
    not_opened g.D.Store (session_of c.args.service (g.S.Surroundings.known_port c.args.surroundings.now) (g.S.Rounds.is_over c.args.surroundings.now) log log) c.args.conn c.in-Err.refused.1 c.args.service.port
    (g.W.Write.contents c.args.writer.now) (g.E.Write.contents c.args.errors.now) (g.E.Write.contents c.run_open.new.errors) c.in-Err.refused.0 refl c.in-Err.ensures.rested c.in-Err.ensures.refused
