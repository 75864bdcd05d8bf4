use Rattle.std.proofs.Common.{Bool, [], rules}
use Rattle.std.proofs.lemmas.List.Sorted.{answers_always}
use Rattle.std.specs.Ordering.{is_lt}
use Rattle.catalogue.specs.Conditional.{cond_cmp}
use Rattle.catalogue.specs.declared.conditional.CondNeed.{CondNeed}
use Rattle.catalogue.proofs.IdFacts.{keys_by_neighbours, conds_total}
use Rattle.catalogue.proofs.conditional.ascend.Goals as goal

pub returns : goal.returns
returns c =
    let below : CondNeed → CondNeed → Bool = λ a b. is_lt (cond_cmp a b) in
    keys_by_neighbours conds_total (record { fmid = []; need = [] }) c.args.conds.now c.is_sorted_by.result
    (c.is_sorted_by.ensures.cases below (answers_always _ _ _ (λ f a r next called. search (called, rules))))
