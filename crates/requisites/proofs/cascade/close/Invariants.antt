use Rattle.std.proofs.Common.{◌≤◌}
use Rattle.requisites.specs.Good.{AreOpen, marked_count}
use Rattle.requisites.proofs.cascade.close.Given as goal

abbrev pub invariant-loop-node : goal.invariant-loop-node
invariant-loop-node l = record {
  opens : AreOpen l.nodes l.opening.open.items;
  fewer : marked_count l.opening.open.items ≤ marked_count l.fn.opening.open.items;
}
