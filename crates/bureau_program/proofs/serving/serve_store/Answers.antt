use Rattle.std.proofs.Common.{IfErr, subst}
use Rattle.bureau_sql.specs.SqlView.{sql_view}
use Rattle.bureau_program.specs.Serving.{HaltsBy, session_of}
use Rattle.bureau_program.proofs.ServingFacts.{halted}
use Rattle.bureau_program.proofs.serving.serve_store.Goals as goal

pub returns-in-Err-default : goal.returns-in-Err-default
returns-in-Err-default g c =
    let begun = g.S.Rounds.log c.announce.new.surroundings in
    let after = g.S.Rounds.log c.serve_in_rounds.new.rounds in
    let over = g.S.Rounds.is_over c.serve_in_rounds.new.rounds in
    let slots = c.in-Ok.prepared.connections.slots.items in
    let cache = c.in-Ok.prepared.cache in
    let new = c.serve_in_rounds.result.1 in
    let session = session_of c.args.service (g.S.Surroundings.known_port c.args.surroundings.now) over (g.S.Rounds.log c.args.surroundings.now) after in
    halted g.D.Store session c.in-Err-default.halt begun slots cache c.args.store new c.fault_of.result c.args.service.port
    (g.W.Write.contents c.args.writer.now) (g.W.Write.contents c.announce.new.writer) c.announce.ensures.none c.in-Ok.ensures.prepared.free c.in-Ok.ensures.port c.in-Ok.ensures.prepared.cache
    (subst (λ served. IfErr served (λ why. HaltsBy (sql_view g.D.Store) begun after slots c.args.service.connections over why cache c.args.store new)) c.in-Err-default.is-0
    c.serve_in_rounds.ensures.halted) c.fault_of.ensures c.in-Ok.ensures.line
