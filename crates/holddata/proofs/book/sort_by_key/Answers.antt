use Rattle.std.proofs.Common.{rules, subst}
use Rattle.std.specs.declared.cmp.Ordering.{Ordering}
use Rattle.std.specs.List.Sorted.{IsStableByKey, IsSortedByKey}
use Rattle.std.proofs.lemmas.List.Sorted.{answers_always}
use Rattle.std.proofs.lemmas.Result.{on_ok_weaker}
use Rattle.holddata.specs.declared.sort_key.SortKey.{SortKey}
use Rattle.holddata.specs.SortKey.{sort_key_of}
use Rattle.holddata.specs.HoldChange.{key_of}
use Rattle.holddata.proofs.SortKeyFacts.{derived_order}
use Rattle.holddata.proofs.BatchFacts.{rearranged}
use Rattle.holddata.proofs.LastFacts.{ascend}
use Rattle.holddata.proofs.book.sort_by_key.Goals as goal

pub returns-clause-same : goal.returns-clause-same
returns-clause-same c =
    let old = c.args.changes.now.items in
    let new = c.sort_by_cached_key.new.self.items in
    let keys = answers_always _ _ _ (λ f a r next called. search rules) in
    rearranged old new
    (subst (λ (cmp : SortKey → SortKey → Ordering). IsStableByKey (λ change. sort_key_of (key_of change)) cmp old new) derived_order
    (c.sort_by_cached_key.ensures.stable (λ change. sort_key_of (key_of change)) keys))

pub returns-clause-ascending : goal.returns-clause-ascending
returns-clause-ascending c =
    let new = c.sort_by_cached_key.new.self.items in
    let keys = answers_always _ _ _ (λ f a r next called. search rules) in
    on_ok_weaker c.sort_by_cached_key.result
    (λ sorted. ascend new
    (subst (λ (cmp : SortKey → SortKey → Ordering). IsSortedByKey (λ change. sort_key_of (key_of change)) cmp new) derived_order
    (sorted (λ change. sort_key_of (key_of change)) keys)))
    c.sort_by_cached_key.ensures.sorted
