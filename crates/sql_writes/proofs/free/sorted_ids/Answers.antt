use Rattle.std.proofs.Common.{List, ℕ, subst}
use Rattle.std.specs.List.Sorted.{IsPermutation}
use Rattle.sql_writes.proofs.free.sorted_ids.Goals as goal

pub returns-clause-same : goal.returns-clause-same
returns-clause-same c = subst (λ (ids : List (List ℕ)). IsPermutation ids c.sort.new.self.items) c.in_ok-ids.ensures.ids c.in_ok-sort.ensures.permutation
