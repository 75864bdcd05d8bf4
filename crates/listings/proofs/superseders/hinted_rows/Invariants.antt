use Rattle.verdicts.specs.Indices.{RowsAre}
use Rattle.listings.specs.Superseders.{AreIndicesOfAll, superseded_at}
use Rattle.listings.proofs.superseders.hinted_rows.Given as goal

abbrev pub invariant-loop-index : goal.invariant-loop-index
invariant-loop-index l = RowsAre (λ p indices. AreIndicesOfAll l.superseded (superseded_at l.entries p) indices) l.index l.rows
