use Rattle.std.proofs.Common.{rules}
use Rattle.std.proofs.lemmas.List.Sorted.{answers_always}
use Rattle.std.proofs.lemmas.Result.{on_ok_weaker}
use Rattle.flat_content.proofs.LinkFacts.{sorted_linked}
use Rattle.flat_content.proofs.links.sort.Goals as goal

pub returns-clause-sorted : goal.returns-clause-sorted
returns-clause-sorted c =
    let keys = answers_always _ _ _ (λ f a r next called. search rules) in
    on_ok_weaker c.sort_by_key.result (λ sorted. sorted (λ link. link.superseded) keys) c.sort_by_key.ensures.sorted

pub returns-clause-same : goal.returns-clause-same
returns-clause-same c =
    let keys = answers_always _ _ _ (λ f a r next called. search rules) in
    sorted_linked c.args.links.now.items c.sort_by_key.new.self.items (c.sort_by_key.ensures.stable (λ link. link.superseded) keys)
