use Rattle.std.proofs.Common.{◌+◌, arith, subst}
use Rattle.bureau.specs.Answering.{bureau_view}
use Rattle.connections.specs.Rounds.{HasServedBut}
use Rattle.connections.proofs.RoundFacts.{counted_out, ended_on, served_none_but, served_on}
use Rattle.connections.proofs.rounds.go_in_rounds.Goals as goal

pub loop-init : goal.loop-init
loop-init g c = served_none_but (bureau_view g.S.Store.tables_view g.J.Judge.is_right) c.args.bureau.now (g.R.Rounds.log c.args.rounds.now) c.args.connections.now c.args.count

pub returns-in-Err-clause-halted : goal.returns-in-Err-clause-halted
returns-in-Err-clause-halted g c =
    ended_on (bureau_view g.S.Store.tables_view g.J.Judge.is_right) c.args.bureau.now c.loop.bureau c.go_round-turn.new.bureau
    (g.R.Rounds.log c.args.rounds.now) (g.R.Rounds.log c.loop.rounds) (g.R.Rounds.log c.go_round-turn.new.rounds)
    c.args.connections.now c.loop.connections c.go_round-turn.new.connections (g.R.Rounds.is_over c.go_round-turn.new.rounds) c.in-Err.halt
    c.loop.left c.args.count c.loop.counter c.loop.invariant c.in-Err.ensures.ended

pub returns-then-are_free-clause-served : goal.returns-then-are_free-clause-served
returns-then-are_free-clause-served g c =
    let view = bureau_view g.S.Store.tables_view g.J.Judge.is_right in
    let none = c.if-left-eq0.true in (
      c.loop.counter + 1,
      subst (λ left. HasServedBut view c.args.bureau.now c.go_round-turn.new.bureau (g.R.Rounds.log c.args.rounds.now) (g.R.Rounds.log c.go_round-turn.new.rounds)
          c.args.connections.now c.go_round-turn.new.connections left c.args.count (c.loop.counter + 1)) (omega (arith, none))
          (served_on view c.args.bureau.now c.loop.bureau c.go_round-turn.new.bureau
          (g.R.Rounds.log c.args.rounds.now) (g.R.Rounds.log c.loop.rounds) (g.R.Rounds.log c.go_round-turn.new.rounds)
          c.args.connections.now c.loop.connections c.go_round-turn.new.connections c.in-Ok.after.0 c.loop.left c.args.count c.loop.counter c.loop.invariant c.in-Ok.ensures.served),
    )

pub loop-preserved : goal.loop-preserved
loop-preserved g c =
    served_on (bureau_view g.S.Store.tables_view g.J.Judge.is_right) c.args.bureau.now c.loop.bureau c.go_round-turn.new.bureau
    (g.R.Rounds.log c.args.rounds.now) (g.R.Rounds.log c.loop.rounds) (g.R.Rounds.log c.go_round-turn.new.rounds)
    c.args.connections.now c.loop.connections c.go_round-turn.new.connections c.in-Ok.after.0 c.loop.left c.args.count c.loop.counter c.loop.invariant c.in-Ok.ensures.served

pub returns-clause-halted : goal.returns-clause-halted
returns-clause-halted g c =
    counted_out (bureau_view g.S.Store.tables_view g.J.Judge.is_right) (g.R.Rounds.is_over c.loop.rounds) c.args.bureau.now c.loop.bureau
    (g.R.Rounds.log c.args.rounds.now) (g.R.Rounds.log c.loop.rounds) c.args.connections.now c.loop.connections c.loop.left c.args.count c.loop.counter c.loop.invariant
    (omega (arith, c.loop-test.false, c.loop.auto.counter-end))
