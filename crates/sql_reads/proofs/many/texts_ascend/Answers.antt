use Rattle.std.proofs.Common.{ℕ, Bool, List, rules}
use Rattle.std.proofs.lemmas.Cmp.{nat_list_cmp_total, on_total}
use Rattle.std.proofs.lemmas.List.Sorted.{answers_always}
use Rattle.std.specs.Cmp.Lexicographic.{slice_cmp}
use Rattle.std.specs.Ordering.{is_lt, nat_cmp}
use Rattle.mcs_reader.specs.Id.{text_of}
use Rattle.sql_reads.specs.Orders.{ascends_by}
use Rattle.sql_reads.proofs.OrderFacts.{by_neighbours}
use Rattle.sql_reads.proofs.many.texts_ascend.Goals as goal

pub returns : goal.returns
returns c =
    let ids = c.args.ids.now in
    let below : List ℕ → List ℕ → Bool = λ a b. is_lt (slice_cmp nat_cmp (text_of a) (text_of b)) in
    let texts = ascends_by (slice_cmp nat_cmp) text_of ids in
    let sorted = by_neighbours (on_total text_of nat_list_cmp_total) ids c.is_sorted_by.result (c.is_sorted_by.ensures.cases below (answers_always _ _ _ (λ f a r next called. search (called, rules)))) in
    (λ so. texts.1 (sorted.0 so), λ ascend. sorted.1 (texts.0 ascend))
