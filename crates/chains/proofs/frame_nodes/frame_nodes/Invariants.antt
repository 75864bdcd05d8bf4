use Rattle.chains.specs.FrameIndices.{AreNodesOf}
use Rattle.chains.proofs.frame_nodes.frame_nodes.Given as goal

abbrev pub invariant-loop-index : goal.invariant-loop-index
invariant-loop-index l = AreNodesOf l.ids l.all l.index l.nodes.items
