use Rattle.std.proofs.Common.{map}
use Rattle.verdicts.specs.Indices.{AreIndicesOf, RowsAre, list_at}
use Rattle.chains.specs.FrameIndices.{node_needs}
use Rattle.chains.specs.Frames.{ids_in}
use Rattle.chains.proofs.planning.zone_needs.Given as goal

abbrev pub invariant-loop-index : goal.invariant-loop-index
invariant-loop-index l =
    RowsAre (λ p indices. AreIndicesOf (ids_in l.frame.nodes) (list_at (map (node_needs l.zone) l.frame.nodes) p) indices) l.index l.needs
