use Rattle.std.proofs.Common.{◌≡◌, length}
use Rattle.requisites.specs.Nodes.{mark_of}
use Rattle.verdicts.specs.Indices.{MarksAre}
use Rattle.zone_plans.specs.Climbs.{mirror}
use Rattle.zone_plans.proofs.others.mirrored_marks.Given as goal

abbrev pub invariant-loop-node : goal.invariant-loop-node
invariant-loop-node l = MarksAre (λ p m. m ≡ mark_of l.marks (mirror (length l.marks) p)) l.node l.turned.items
