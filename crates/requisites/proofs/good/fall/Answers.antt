use Rattle.std.proofs.Common.{arith}
use Rattle.requisites.proofs.PlanFacts.{left_begins, round_good, round_left}
use Rattle.requisites.proofs.good.fall.Goals as goal

pub rounds-init : goal.rounds-init
rounds-init c = left_begins c.args.nodes.now c.args.marks.now c.requires

pub returns-then-not-sweep : goal.returns-then-not-sweep
returns-then-not-sweep c = record {
  good = round_good c.args.nodes.now c.rounds.marks c.sweep.new.marks c.deref.result.now c.in_ok-givers.givers.items c.sweep.result c.if-not-sweep.true
      c.rounds.invariant c.deref.ensures.value c.in_ok-givers.ensures.sources c.sweep.ensures;
  len = omega (arith, c.in_ok-givers.ensures.len, c.rounds.auto.marks);
}

pub rounds-preserved : goal.rounds-preserved
rounds-preserved c =
    round_left c.args.nodes.now c.rounds.marks c.sweep.new.marks c.deref.result.now c.in_ok-givers.givers.items c.sweep.result
    c.rounds.invariant c.deref.ensures.value c.in_ok-givers.ensures.sources c.sweep.ensures
