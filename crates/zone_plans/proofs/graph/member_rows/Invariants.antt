use Rattle.verdicts.specs.Indices.{AreIndicesOf, RowsAre}
use Rattle.zone_plans.specs.Graphs.{list_at, lists_of}
use Rattle.zone_plans.proofs.graph.member_rows.Given as goal

abbrev pub invariant-loop-list : goal.invariant-loop-list
invariant-loop-list l = RowsAre (λ p indices. AreIndicesOf l.ids (list_at (lists_of l.lists) p) indices) l.list-index l.rows
