use Rattle.verdicts.specs.Indices.{MarksAre}
use Rattle.zone_plans.proofs.GraphFacts.{IsMarkOf}
use Rattle.requisites.specs.Sources.{HasSource}
use Rattle.zone_plans.proofs.marks.sourced.Given as goal

abbrev pub invariant-loop-node : goal.invariant-loop-node
invariant-loop-node l = MarksAre (λ p mark. IsMarkOf (HasSource l.sources p) mark) l.node l.marks.items
