use Rattle.std.proofs.Common.{◌≡◌, ◌∙◌, ◌++◌, ◌∷◌, [], List, ℕ, length, ap, arith, subst}
use Rattle.verdicts.specs.Indices.{AreIndicesOf, RowsAre}
use Rattle.listings.specs.Superseders.{superseded_at}
use Rattle.verdicts.proofs.IndexFacts.{rows_more}
use Rattle.listings.proofs.SupersederFacts.{superseded_here}
use Rattle.listings.proofs.superseders.superseded_rows.Goals as goal

pub loop-index-preserved : goal.loop-index-preserved
loop-index-preserved c =
    let superseded = c.args.superseded.now in
    let sights = c.args.entries.now in
    let indices = c.put_indices.new.indices.items in
    let P : List (List ℕ) → Type 0 = λ ids. AreIndicesOf superseded ids indices in
    rows_more (λ p indices. AreIndicesOf superseded (superseded_at sights p) indices) c.loop-index.index c.loop-index.rows _ indices c.loop-index.invariant
    (subst P (superseded_here sights c.loop-index.index c.index-entries-index.result _ c.loop-index-test.true c.index-entries-index.is c.superseded.ensures) c.in_ok-put_indices.ensures)
    (c.in_ok-push_row.ensures.rows ∙ ap (λ (row : List ℕ). c.loop-index.rows ++ row ∷ []) c.deref.ensures.value)

pub returns : goal.returns
returns c =
    let all : c.loop-index.index ≡ length c.args.entries.now = omega (arith, c.loop-index-test.false, c.loop-index.auto.index-end) in
    let P : ℕ → Type 0 = λ n. RowsAre (λ p indices. AreIndicesOf c.args.superseded.now (superseded_at c.args.entries.now p) indices) n c.loop-index.rows in
    subst P all c.loop-index.invariant
