use Rattle.std.proofs.Common.{rules}
use Rattle.std.proofs.lemmas.List.Sorted.{answers_always}
use Rattle.std.proofs.lemmas.Result.{on_ok_weaker}
use Rattle.flat_content.proofs.OrderFacts.{sorted_first}
use Rattle.flat_content.proofs.heads.sort.Goals as goal

pub returns-clause-sorted : goal.returns-clause-sorted
returns-clause-sorted c =
    let keys = answers_always _ _ _ (λ f a r next called. search rules) in
    on_ok_weaker c.sort_by_key.result (λ sorted. sorted (λ head. head.id) keys) c.sort_by_key.ensures.sorted

pub returns-clause-first : goal.returns-clause-first
returns-clause-first c =
    let keys = answers_always _ _ _ (λ f a r next called. search rules) in
    sorted_first c.args.heads.now.items c.sort_by_key.new.self.items (c.sort_by_key.ensures.stable (λ head. head.id) keys)
