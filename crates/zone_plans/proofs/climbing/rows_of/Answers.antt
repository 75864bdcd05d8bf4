use Rattle.std.proofs.Common.{◌≡◌, ◌∙◌, ◌++◌, ◌∷◌, [], List, ℕ, length, ap, arith, subst}
use Rattle.verdicts.specs.Indices.{AreIndicesOf, RowsAre, list_at}
use Rattle.chains.proofs.ClimbFacts.{listed_here}
use Rattle.verdicts.proofs.IndexFacts.{rows_more}
use Rattle.zone_plans.proofs.climbing.rows_of.Goals as goal

pub loop-index-preserved : goal.loop-index-preserved
loop-index-preserved c =
    let ids = c.args.ids.now in
    let lists = c.args.lists.now in
    rows_more (λ p indices. AreIndicesOf ids (list_at lists p) indices) c.loop-index.index c.loop-index.rows _ c.put_indices.new.indices.items c.loop-index.invariant
    (listed_here lists c.loop-index.index c.index-lists-index.result ids c.as_slice.result.now c.put_indices.new.indices.items c.loop-index-test.true c.index-lists-index.is c.as_slice.ensures.value
    c.in_ok-put_indices.ensures)
    (c.in_ok-push_row.ensures.rows ∙ ap (λ (row : List ℕ). c.loop-index.rows ++ row ∷ []) c.deref.ensures.value)

pub returns : goal.returns
returns c =
    let all : c.loop-index.index ≡ length c.args.ids.now = omega (arith, c.requires.len, c.loop-index-test.false, c.loop-index.auto.index-end) in
    let P : ℕ → Type 0 = λ n. RowsAre (λ p indices. AreIndicesOf c.args.ids.now (list_at c.args.lists.now p) indices) n c.loop-index.rows in
    subst P all c.loop-index.invariant
