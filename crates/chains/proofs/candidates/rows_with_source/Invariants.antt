use Rattle.std.proofs.Common.{◌≡◌}
use Rattle.requisites.specs.Nodes.{row}
use Rattle.chains.specs.Climbs.{with_source}
use Rattle.verdicts.specs.Indices.{RowsAre}
use Rattle.chains.proofs.candidates.rows_with_source.Given as goal

abbrev pub invariant-loop-index : goal.invariant-loop-index
invariant-loop-index l = RowsAre (λ p indices. indices ≡ with_source l.sources (row l.rows p)) l.index l.kept
