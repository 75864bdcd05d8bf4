use Rattle.std.proofs.Common.{rules}
use Rattle.std.proofs.lemmas.List.Sorted.{answers_always}
use Rattle.std.specs.Ordering.{is_lt}
use Rattle.sql_reads.proofs.OrderFacts.{by_neighbours}
use Rattle.sql_reads.proofs.entry.are_ascending.Goals as goal

pub returns : goal.returns
returns g c =
    let items = c.args.items.now in
    let ascends = g.met.X.Ordered.ascends items in
    let sorted = by_neighbours g.met.X.Ordered.total items c.is_sorted_by.result
    (c.is_sorted_by.ensures.cases (λ a b. is_lt (g.X.Ordered.cmp a b)) (answers_always _ _ _ (λ f a r next called. search (called, rules)))) in
    (λ so. ascends.1 (sorted.0 so), λ ascend. sorted.1 (ascends.0 ascend))
