use Rattle.std.proofs.Common.{◌∙◌, ◌++◌, ◌∷◌, [], List, ap, subst, ℕ}
use Rattle.verdicts.specs.Indices.{AreIndicesOf}
use Rattle.listings.specs.ListedRows.{sight_placed}
use Rattle.listings.specs.Places.{place_at}
use Rattle.listings.specs.Sights.{Sight}
use Rattle.verdicts.proofs.IndexFacts.{rows_more}
use Rattle.listings.proofs.listed_rows.always_needs.Goals as goal

pub loop-index-preserved : goal.loop-index-preserved
loop-index-preserved c =
    let members = c.args.members.now in
    let index = c.loop-index.index in
    let indices = c.put_indices.new.indices.items in
    let P : List (List ℕ) → Type 0 = λ l. AreIndicesOf members l indices in
    rows_more (λ p row. AreIndicesOf members (sight_placed c.args.entries.now (place_at c.args.listed.now p)).needs row) index c.loop-index.needs _ indices c.loop-index.invariant
    (subst P (c.needs.ensures ∙ ap (λ (sight : Sight). sight.needs) c.entry_at-entry.ensures.value) c.in_ok-put_indices.ensures)
    (c.in_ok-push_row.ensures.rows ∙ ap (λ (row : List ℕ). c.loop-index.needs ++ row ∷ []) c.deref.ensures.value)
