use Rattle.std.proofs.lemmas.List.Sorted.{Contains-permutation, IsPermutation-sym}
use Rattle.flat_content.proofs.heads.put_in_order.Goals as goal

pub returns-clause-kept : goal.returns-clause-kept
returns-clause-kept c = λ head has.
    Contains-permutation _ _ head (IsPermutation-sym _ _ c.reverse.ensures.permutation)
    (Contains-permutation _ _ head (IsPermutation-sym _ _ c.sort.ensures.same) (c.keep_first.ensures.kept head has))
