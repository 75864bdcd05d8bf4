use Rattle.verdicts.specs.Indices.{MarksAre}
use Rattle.zone_plans.proofs.GraphFacts.{IsMarkOf}
use Rattle.zone_plans.specs.Graphs.{IsStart}
use Rattle.zone_plans.proofs.marks.left_and_sourced.Given as goal

abbrev pub invariant-loop-node : goal.invariant-loop-node
invariant-loop-node l = MarksAre (λ p mark. IsMarkOf (IsStart l.left l.sources p) mark) l.node l.marks.items
