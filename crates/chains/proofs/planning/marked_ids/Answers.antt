use Rattle.std.proofs.Common.{◌≡◌, ◌∙◌, ◌++◌, ◌∷◌, [], cond, sym, ap, Bool}
use Rattle.std.proofs.lemmas.List.{append-nil}
use Rattle.chains.proofs.PlanFacts.{marked_more}
use Rattle.chains.proofs.planning.marked_ids.Goals as goal
use Rattle.chains.proofs.planning.marked_ids.Goals.{then-is_marked+in_ok-push, else-is_marked}

pub loop-index-preserved : goal.loop-index-preserved
loop-index-preserved c = λ f marks.
    let id = c.index-ids-index.result in
    let old = c.loop-index.those.items in
    let now : c.if-is_marked.those.items ≡ old ++ cond c.is_marked.result (id ∷ []) [] = elim c.if-is_marked.branch [
      | then-is_marked+in_ok-push w ↦
          ap (λ v. v.items) w.those-is ∙ w.in_ok-push.ensures.items ∙ sym (ap (λ (b : Bool). old ++ cond b (id ∷ []) []) w.if-is_marked.true)
      | else-is_marked w ↦
          ap (λ v. v.items) w.those-is ∙ sym (append-nil old) ∙ sym (ap (λ (b : Bool). old ++ cond b (id ∷ []) []) w.if-is_marked.false)
    ] in
    marked_more f c.args.ids.now c.loop-index.index id c.is_marked.result old c.if-is_marked.those.items
    c.loop-index-test.true c.index-ids-index.is (c.is_marked.ensures ∙ marks c.loop-index.index c.loop-index-test.true) (c.loop-index.invariant f marks) now
