use Rattle.std.proofs.Common.{◌∙◌, ◌++◌, ◌∷◌, [], List, ℕ, ap, map}
use Rattle.verdicts.specs.Indices.{AreIndicesOf, list_at}
use Rattle.listings.proofs.LinkFacts.{indexed_here}
use Rattle.verdicts.proofs.IndexFacts.{rows_more}
use Rattle.listings.proofs.links.Links.of.Goals as goal

pub loop-index-preserved : goal.loop-index-preserved
loop-index-preserved c =
    let ids = c.args.ids.now in
    let all = c.args.all.now in
    let index = c.loop-index.index in
    let g = c.index-all-index.result in
    let was = c.loop-index.invariant in
    record {
      needs = rows_more (λ p indices. AreIndicesOf ids (list_at (map (λ g. g.entry.needs) all) p) indices) index c.loop-index.needs _ c.put_indices.new.indices.items was.needs
          (indexed_here (λ g. g.entry.needs) all index g ids c.needs.result.now c.put_indices.new.indices.items c.loop-index-test.true c.index-all-index.is c.needs.ensures c.in_ok-put_indices.ensures)
          (c.in_ok-push_row.ensures.rows ∙ ap (λ (row : List ℕ). c.loop-index.needs ++ row ∷ []) c.deref.ensures.value);
      supersedes = rows_more (λ p indices. AreIndicesOf ids (list_at (map (λ g. g.entry.superseded) all) p) indices) index c.loop-index.supersedes _ c.put_indices-in-loop-index.new.indices.items was.supersedes
          (indexed_here (λ g. g.entry.superseded) all index g ids c.superseded.result.now c.put_indices-in-loop-index.new.indices.items c.loop-index-test.true c.index-all-index.is c.superseded.ensures c.in_ok-put_indices-2.ensures)
          (c.in_ok-push_row-2.ensures.rows ∙ ap (λ (row : List ℕ). c.loop-index.supersedes ++ row ∷ []) c.deref-in-loop-index.ensures.value);
      above = rows_more (λ p indices. AreIndicesOf ids (list_at (map (λ g. g.above) all) p) indices) index c.loop-index.above _ c.put_indices-in-loop-index-2.new.indices.items was.above
          (indexed_here (λ g. g.above) all index g ids c.as_slice.result.now c.put_indices-in-loop-index-2.new.indices.items c.loop-index-test.true c.index-all-index.is c.as_slice.ensures.value c.in_ok-put_indices-3.ensures)
          (c.in_ok-push_row-3.ensures.rows ∙ ap (λ (row : List ℕ). c.loop-index.above ++ row ∷ []) c.deref-in-loop-index-2.ensures.value);
    }
