use Rattle.verdicts.specs.Indices.{AreIndicesOf, RowsAre, list_at}
use Rattle.zone_plans.proofs.climbing.rows_of.Given as goal

abbrev pub invariant-loop-index : goal.invariant-loop-index
invariant-loop-index l = RowsAre (λ p indices. AreIndicesOf l.ids (list_at l.lists p) indices) l.index l.rows
