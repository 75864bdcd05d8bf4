use Rattle.std.proofs.Common.{◌∙◌, ◌++◌, ◌∷◌, [], List, ℕ, ap, subst}
use Rattle.verdicts.specs.Indices.{AreIndicesOf}
use Rattle.listings.proofs.MemberRowFacts.{row_pushed}
use Rattle.listings.proofs.member_rows.MemberRows.push.Goals as goal

pub returns : goal.returns
returns c = λ before are.
    let P : List (List ℕ) → Type 0 = λ l. AreIndicesOf c.args.members.now l c.put_indices.new.indices.items in
    row_pushed c.args.zone.now c.args.members.now before c.args.entry.now _ _ _ _ _ _ c.is_candidate.result c.put_needs.new.indices.items c.put_indices.new.indices.items are
    c.is_candidate.ensures c.in_ok-push.ensures.items
    c.in_ok-put_needs.ensures (c.in_ok-push_row.ensures.rows ∙ ap (λ (row : List ℕ). c.args.self.now.needs ++ row ∷ []) c.deref.ensures.value)
    (subst P c.superseded.ensures c.in_ok-put_indices.ensures) (c.in_ok-push_row-2.ensures.rows ∙ ap (λ (row : List ℕ). c.args.self.now.supersedes ++ row ∷ []) c.deref-2.ensures.value)
