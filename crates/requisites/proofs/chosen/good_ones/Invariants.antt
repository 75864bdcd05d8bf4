use Rattle.std.proofs.Common.{◌≡◌, filter, take}
use Rattle.requisites.specs.Nodes.{mark_of}
use Rattle.requisites.proofs.chosen.good_ones.Given as goal

abbrev pub invariant-loop-node : goal.invariant-loop-node
invariant-loop-node l = l.good.items ≡ filter (λ node. mark_of l.resolution.good.items node) (take l.node-index l.nodes)
