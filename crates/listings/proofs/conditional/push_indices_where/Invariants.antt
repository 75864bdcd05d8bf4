use Rattle.std.proofs.Common.{◌++◌, List, ℕ, take}
use Rattle.supersede.specs.Giving.{needs_where}
use Rattle.verdicts.specs.Indices.{AreIndicesOf}
use Rattle.listings.proofs.conditional.push_indices_where.Given as goal

abbrev pub invariant-loop-cond : goal.invariant-loop-cond
invariant-loop-cond l =
    (ids : List (List ℕ)) → AreIndicesOf l.members ids l.fn.indices.items → AreIndicesOf l.members (ids ++ needs_where l.zone (take l.cond-index l.conds)) l.indices.items
