use Rattle.bureau.specs.Answering.{bureau_view}
use Rattle.bureau_http.proofs.NextFacts.{acts_once}
use Rattle.connections.proofs.RoundFacts.{all_so, goes_so, halted_so}
use Rattle.connections.proofs.rounds.serve_rounds.Goals as goal

pub returns-clause-goes : goal.returns-clause-goes
returns-clause-goes g c =
    (goes_so (bureau_view g.S.Store.tables_view g.J.Judge.is_right) c.args.bureau.now c.go_in_rounds.new.bureau
    (g.R.Rounds.log c.args.rounds.now) (g.R.Rounds.log c.go_in_rounds.new.rounds) c.args.connections.now c.go_in_rounds.new.connections
    (g.R.Rounds.is_over c.go_in_rounds.new.rounds) c.go_in_rounds.result c.args.count c.go_in_rounds.ensures.served c.go_in_rounds.ensures.halted).0

pub returns-clause-served : goal.returns-clause-served
returns-clause-served g c =
    all_so (bureau_view g.S.Store.tables_view g.J.Judge.is_right) c.later_bytes.ensures c.isolation.ensures.alone c.isolation.ensures.alike
    (acts_once c.repeats.ensures.once c.repeats.ensures.stale) c.args.bureau.now c.args.connections.now c.go_in_rounds.new.bureau
    (g.R.Rounds.log c.args.rounds.now) (g.R.Rounds.log c.go_in_rounds.new.rounds) c.go_in_rounds.new.connections
    c.go_in_rounds.result c.args.count c.go_in_rounds.ensures.served c.go_in_rounds.ensures.gone

pub returns-clause-halted : goal.returns-clause-halted
returns-clause-halted g c =
    halted_so (bureau_view g.S.Store.tables_view g.J.Judge.is_right) c.later_bytes.ensures c.isolation.ensures.alone c.isolation.ensures.alike
    (acts_once c.repeats.ensures.once c.repeats.ensures.stale) c.args.bureau.now c.args.connections.now c.go_in_rounds.new.bureau
    (g.R.Rounds.log c.args.rounds.now) (g.R.Rounds.log c.go_in_rounds.new.rounds) c.go_in_rounds.new.connections
    (g.R.Rounds.is_over c.go_in_rounds.new.rounds) c.go_in_rounds.result c.args.count c.go_in_rounds.ensures.halted

pub returns-clause-within : goal.returns-clause-within
returns-clause-within g c =
    (goes_so (bureau_view g.S.Store.tables_view g.J.Judge.is_right) c.args.bureau.now c.go_in_rounds.new.bureau
    (g.R.Rounds.log c.args.rounds.now) (g.R.Rounds.log c.go_in_rounds.new.rounds) c.args.connections.now c.go_in_rounds.new.connections
    (g.R.Rounds.is_over c.go_in_rounds.new.rounds) c.go_in_rounds.result c.args.count c.go_in_rounds.ensures.served c.go_in_rounds.ensures.halted).1
