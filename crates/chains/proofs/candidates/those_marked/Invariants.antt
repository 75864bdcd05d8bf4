use Rattle.std.proofs.Common.{◌≡◌, filter, take}
use Rattle.requisites.specs.Nodes.{mark_of}
use Rattle.chains.proofs.candidates.those_marked.Given as goal

abbrev pub invariant-loop-index : goal.invariant-loop-index
invariant-loop-index l = l.those.items ≡ filter (mark_of l.marks) (take l.index-index l.indices)
