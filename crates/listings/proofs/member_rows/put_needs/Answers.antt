use Rattle.std.proofs.Common.{◌∙◌, ◌++◌, List, ℕ, subst}
use Rattle.catalogue.specs.declared.conditional.CondNeed.{CondNeed}
use Rattle.supersede.specs.Giving.{needs_where}
use Rattle.verdicts.specs.Indices.{AreIndicesOf}
use Rattle.listings.proofs.member_rows.put_needs.Goals as goal

pub returns : goal.returns
returns c =
    let members = c.args.members.now in
    let sight = c.args.entry.now in
    let P : List (List ℕ) → Type 0 = λ l. AreIndicesOf members l c.put_indices.new.indices.items in
    let Q : List CondNeed → Type 0 = λ conds. AreIndicesOf members (sight.needs ++ needs_where c.args.zone.now conds) c.push_indices_where.new.indices.items in
    subst Q (c.as_slice.ensures.value ∙ c.conds.ensures) (c.in_ok-push_indices_where.ensures sight.needs (subst P c.needs.ensures c.in_ok-put_indices.ensures))
