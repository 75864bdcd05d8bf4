use Rattle.verdicts.specs.Indices.{AreIndicesOf, RowsAre}
use Rattle.listings.specs.Superseders.{superseded_at}
use Rattle.listings.proofs.superseders.superseded_rows.Given as goal

abbrev pub invariant-loop-index : goal.invariant-loop-index
invariant-loop-index l = RowsAre (λ p indices. AreIndicesOf l.superseded (superseded_at l.entries p) indices) l.index l.rows
