-- what was done so far, after so many rounds
use Rattle.bureau.specs.Answering.{bureau_view}
use Rattle.connections.specs.Rounds.{HasServedBut}
use Rattle.connections.proofs.rounds.go_in_rounds.Given as goal

abbrev pub invariant-loop : goal.invariant-loop
invariant-loop g l =
    HasServedBut (bureau_view g.S.Store.tables_view g.J.Judge.is_right) l.fn.bureau l.bureau (g.R.Rounds.log l.fn.rounds) (g.R.Rounds.log l.rounds)
    l.fn.connections l.connections l.left l.count l.counter
