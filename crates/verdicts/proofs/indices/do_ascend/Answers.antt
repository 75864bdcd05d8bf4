use Rattle.std.proofs.Common.{ℕ, Bool, List, rules}
use Rattle.std.proofs.lemmas.List.Sorted.{answers_always}
use Rattle.std.specs.Ordering.{is_lt}
use Rattle.catalogue.specs.Ids.{id_cmp}
use Rattle.catalogue.proofs.IdFacts.{ascend_by_neighbours}
use Rattle.verdicts.proofs.indices.do_ascend.Goals as goal

pub returns : goal.returns
returns c =
    let below : List ℕ → List ℕ → Bool = λ a b. is_lt (id_cmp a b) in
    (ascend_by_neighbours c.args.ids.now c.is_sorted_by.result (c.is_sorted_by.ensures.cases below (answers_always _ _ _ (λ f a r next called. search (called, rules))))).0
