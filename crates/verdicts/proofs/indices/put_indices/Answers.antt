use Rattle.std.proofs.Common.{◌∙◌, ◌++◌, ◌∷◌, [], ℕ, List, sym, ap, subst, take}
use Rattle.verdicts.specs.Indices.{AreIndicesOf}
use Rattle.verdicts.proofs.IndexFacts.{indices_more, indices_on, indices_skip}
use Rattle.verdicts.proofs.indices.put_indices.Goals as goal
use Rattle.verdicts.proofs.indices.put_indices.Goals.{in-Some+in_ok-push, in_default}

pub loop-id-preserved : goal.loop-id-preserved
loop-id-preserved c =
    let members = c.args.members.now in
    let ids = c.args.ids.now in
    let i = c.loop-id.id-index in
    let id = c.id-item.result in
    let old = c.loop-id.indices.items in
    let P : List ℕ → Type 0 = λ indices. AreIndicesOf members (take i ids ++ id ∷ []) indices in
    indices_on members ids i id c.match-index_near.indices.items c.loop-id-test.true c.id-item.is (
    elim c.match-index_near.branch [
      | in-Some+in_ok-push w ↦
          subst P (sym (ap (λ v. v.items) w.indices-is ∙ w.in_ok-push.ensures.items))
          (indices_more members (take i ids) old id w.in-Some.index c.requires c.loop-id.invariant w.in-Some.ensures.some)
      | in_default w ↦
          subst P (sym (ap (λ v. v.items) w.indices-is)) (indices_skip members (take i ids) old id c.loop-id.invariant w.in_default.ensures.none)
    ])
