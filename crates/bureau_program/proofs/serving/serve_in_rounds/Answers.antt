use Rattle.bureau_program.proofs.ServingFacts.{serves_all, serves_until}
use Rattle.bureau_program.proofs.serving.serve_in_rounds.Goals as goal

pub returns-clause-served : goal.returns-clause-served
returns-clause-served g c =
    serves_all g.S.Store.tables_view (g.R.Rounds.log c.args.rounds.now) (g.R.Rounds.log c.serve_rounds-served.new.rounds)
    c.args.prepared.connections.slots.items c.serve_rounds-served.new.connections.slots.items c.args.prepared.cache c.args.store c.into_parts-store.result.0
    c.new-bureau.result c.serve_rounds-served.new.bureau c.new-bureau.ensures c.into_parts-store.ensures.store c.serve_rounds-served.ensures.goes
    c.serve_rounds-served.result c.args.count c.serve_rounds-served.ensures.served

pub returns-clause-halted : goal.returns-clause-halted
returns-clause-halted g c =
    serves_until g.S.Store.tables_view (g.R.Rounds.log c.args.rounds.now) (g.R.Rounds.log c.serve_rounds-served.new.rounds)
    c.args.prepared.connections.slots.items c.serve_rounds-served.new.connections.slots.items c.args.prepared.cache c.args.store c.into_parts-store.result.0
    c.new-bureau.result c.serve_rounds-served.new.bureau c.new-bureau.ensures c.into_parts-store.ensures.store c.serve_rounds-served.ensures.goes
    c.serve_rounds-served.result (g.R.Rounds.is_over c.serve_rounds-served.new.rounds) c.args.count c.serve_rounds-served.ensures.halted
