use Rattle.std.proofs.Common.{◌≡◌, ◌∙◌, ◌++◌, ◌∷◌, [], List, ℕ, ap, rules, subst, true}
use Rattle.listings.specs.Superseders.{AreIndicesOfAll, superseded_at}
use Rattle.verdicts.proofs.IndexFacts.{rows_more}
use Rattle.listings.proofs.SupersederFacts.{superseded_here}
use Rattle.listings.proofs.superseders.hinted_rows.Goals as goal

pub loop-index-preserved : goal.loop-index-preserved
loop-index-preserved c =
    let superseded = c.args.superseded.now in
    let sights = c.args.entries.now in
    let indices = c.put_hinted.new.indices.items in
    let all : c.in_ok-put_hinted.field-0 ≡ true = search (c.if-not-branch.false, rules) in
    let P : List (List ℕ) → Type 0 = λ ids. AreIndicesOfAll superseded ids indices in
    rows_more (λ p indices. AreIndicesOfAll superseded (superseded_at sights p) indices) c.loop-index.index c.loop-index.rows _ indices c.loop-index.invariant
    (subst P (superseded_here sights c.loop-index.index c.index-entries-index.result _ c.loop-index-test.true c.index-entries-index.is c.superseded.ensures) (c.in_ok-put_hinted.ensures all))
    (c.in_ok-push_row.ensures.rows ∙ ap (λ (row : List ℕ). c.loop-index.rows ++ row ∷ []) c.deref.ensures.value)
